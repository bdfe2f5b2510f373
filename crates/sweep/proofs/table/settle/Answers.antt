use Rattle.std.proofs.Common.{◌≡◌, ◌+◌, ◌<◌, true, false, length, set, replicate, Some, None, subst, arith, lit≤}
use Rattle.std.proofs.lemmas.List.{get_or-set_same}
use Rattle.runs.specs.Graphs.{arc_at}
use Rattle.runs.specs.Held.{graph, sound}
use Rattle.sweep.specs.Best.{Allowed}
use Rattle.sweep.specs.Front.{Front, Made, Picked, left}
use Rattle.sweep.proofs.Basics.{left_set}
use Rattle.sweep.proofs.Fronts.{begin_step, pick_step, swept}
use Rattle.sweep.proofs.Turns.{made_fits, none_done}
use Rattle.sweep.proofs.table.settle.Goals as goal
use Rattle.sweep.proofs.table.settle.Goals.{After-pick, In-Some}

size : (g : _) (c : After-pick g) → length c.loop-next.best ≡ (graph c.args.arcs.now).points
size g c = omega (arith, c.requires.table, c.loop-next.auto.best)

below : (g : _) (c : In-Some g) → c.in-Some.next.0 < length c.loop-next.done
below g c = let picked = c.in-Some.ensures in omega (arith, picked.0, c.loop-next.array_long, size g (goal.at.In-Some g c).After-pick, (sound c.args.arcs.now).points_most)

-- the point picked is done from now on, and its arcs are yet to be worked in
step : (g : _) (c : In-Some g) → let arcs = graph c.args.arcs.now in let p = c.in-Some.next in let done = set c.loop-next.done p.0 true in
    Front g.G.Grading.ops (arc_at arcs) (Allowed arcs c.args.allowed.now) arcs.points c.args.s done p.0 0 p.1 c.loop-next.best × Made g.G.Grading.ops (arc_at arcs) (Allowed arcs c.args.allowed.now) c.args.s (left done + 1) p.0 p.1
step g c =
    let arcs = graph c.args.arcs.now in
    let inv = c.loop-next.invariant in
    let picked = subst (λ n. Picked g.G.Grading.ops.le n c.loop-next.done c.loop-next.best (Some c.in-Some.next)) (size g (goal.at.In-Some g c).After-pick) c.in-Some.ensures in
    pick_step g.met.G.Grading.lawful (arc_at arcs) (Allowed arcs c.args.allowed.now) arcs.points c.args.s c.loop-next.done inv.0 (length arcs.arcs) inv.1 c.loop-next.best c.in-Some.next (below g c) (λ j o. o.0) picked inv.2

pub loop-next-init : goal.loop-next-init
loop-next-init g c =
    let arcs = graph c.args.arcs.now in
    (0, g.G.Grading.ops.begin, begin_step g.met.G.Grading.lawful (arc_at arcs) (Allowed arcs c.args.allowed.now) arcs.points c.args.s (replicate 64 false) (length arcs.arcs) c.begin.new.best (lit≤ tt) (none_done 64) c.begin.ensures.at (λ v vn. c.begin.ensures.others v))

pub relax-requires-clause-fits : goal.relax-requires-clause-fits
relax-requires-clause-fits g c =
    let arcs = graph c.args.arcs.now in
    let good = sound c.args.arcs.now in
    let p = c.in-Some.next in
    made_fits g.met.G.Grading.lawful (arc_at arcs) (Allowed arcs c.args.allowed.now) c.args.s p.0 (left (set c.loop-next.done p.0 true)) p.1 (λ k o. (good.delay_most k, good.room_most k)) (step g (goal.at.relax-requires-clause-fits g c).In-Some).1

pub loop-next-smaller : goal.loop-next-smaller
loop-next-smaller g c =
    let picked = c.in-Some.ensures in
    omega (arith, left_set c.loop-next.done c.in-Some.next.0 (below g (goal.at.loop-next-smaller g c).In-Some) picked.1)

pub loop-next-preserved : goal.loop-next-preserved
loop-next-preserved g c =
    let at = (goal.at.loop-next-preserved g c).In-Some in
    let picked = c.in-Some.ensures in
    let p = c.in-Some.next in
    let t = step g at in
    (p.0, p.1, (c.relax.ensures c.args.s (set c.loop-next.done p.0 true) (get_or-set_same c.loop-next.done p.0 true false (below g at)) t.1 (t.0, picked.2)).0)

pub returns-clause-best : goal.returns-clause-best
returns-clause-best g c =
    let arcs = graph c.args.arcs.now in
    let inv = c.loop-next.invariant in
    let unpicked = subst (λ n. Picked g.G.Grading.ops.le n c.loop-next.done c.loop-next.best None) (size g (goal.at.returns-clause-best g c).After-pick) c.in_default.ensures in
    swept g.met.G.Grading.lawful (arc_at arcs) (Allowed arcs c.args.allowed.now) arcs.points c.args.s c.loop-next.done inv.0 (length arcs.arcs) inv.1 c.loop-next.best (λ j o. o.0) (λ j o. (sound c.args.arcs.now).from_below j) unpicked inv.2
