use Rattle.std.proofs.Common.{◌<◌, ◌≤◌, length, None, sym, ap, ◌∙◌, arith}
use Rattle.std.proofs.lemmas.List.{length_push, get_or_default}
use Rattle.runs.specs.Graphs.{arc_at}
use Rattle.runs.specs.Held.{graph}
use Rattle.sweep.specs.Best.{Allowed}
use Rattle.sweep.specs.Front.{kept}
use Rattle.sweep.proofs.Turns.{Turn, turn_of, all_turned, relax_skip, relax_offer, relax_end, extended}
use Rattle.sweep.proofs.table.relax.Goals as goal
use Rattle.sweep.proofs.table.relax.Goals.{In-Some}

-- what the loop reads in this turn
turn : (g : _) (c : In-Some g) → Turn (graph c.args.arcs.now) c.args.allowed.now (length c.loop-arc.yielded) c.in-Some.arc.now c.in-Some.allowed.now
turn g c = turn_of c.args.arcs.now c.args.allowed.now c.loop-arc.yielded c.into_iter-arc-iterator.result c.loop-arc.arc-iterator c.next.new.self c.next.result (cc) (cc) c.loop-arc.yielded_by (c.in-Some.arc, c.in-Some.allowed) c.in-Some.is c.next.ensures.steps

pub offset_bounds-best-arc : goal.offset_bounds-best-arc
offset_bounds-best-arc g c =
    let below = (turn g (goal.at.offset_bounds-best-arc g c).In-Some).to_below in
    let lt : c.in-Some.arc.now.to ≤ length c.args.best.now = omega (arith, c.requires.table) in
    grind arith

pub bounds-best-arc : goal.bounds-best-arc
bounds-best-arc g c = omega (arith, (turn g (goal.at.bounds-best-arc g c).In-Some).to_below, c.requires.table, c.loop-arc.auto.best)

pub loop-arc-preserved-then-leaves : goal.loop-arc-preserved-then-leaves
loop-arc-preserved-then-leaves g c =
    let t = turn g (goal.at.loop-arc-preserved-then-leaves g c).In-Some in
    let lt : c.in-Some.arc.now.to < length c.loop-arc.best = omega (arith, t.to_below, c.requires.table, c.loop-arc.auto.best) in
    let y = c.extend.ensures ∙ extended g.met.G.Grading.lawful c.args.x c.in-Some.arc.now t.ranged c.requires.fits in
    let o = c.offer.ensures ∙ ap (λ p. kept g.G.Grading.ops.le p c.extend.result) (get_or_default c.loop-arc.best c.in-Some.arc.now.to c.index-best-arc.result None lt) in
    ((tt, tt), tt, relax_offer g.met.G.Grading.lawful (graph c.args.arcs.now) c.args.allowed.now c.args.u c.args.x c.args.best.now (length c.loop-arc.yielded) c.loop-arc.best c.loop-arc.invariant.2 t _ (length_push c.loop-arc.yielded (c.in-Some.arc, c.in-Some.allowed)) (sym c.if-leaves.ensures) lt c.extend.result c.offer.new.place y o)

pub loop-arc-preserved : goal.loop-arc-preserved
loop-arc-preserved g c =
    let t = turn g (goal.at.loop-arc-preserved g c).In-Some in
    ((tt, tt), tt, relax_skip g.met.G.Grading.lawful (graph c.args.arcs.now) c.args.allowed.now c.args.u c.args.x c.args.best.now (length c.loop-arc.yielded) c.loop-arc.best c.loop-arc.invariant.2 t _ (length_push c.loop-arc.yielded (c.in-Some.arc, c.in-Some.allowed)) (sym c.if-leaves.ensures))

pub returns : goal.returns
returns g c =
    let arcs = graph c.args.arcs.now in
    let all = all_turned c.args.arcs.now c.args.allowed.now c.loop-arc.yielded c.into_iter-arc-iterator.result c.loop-arc.arc-iterator c.next.new.self c.next.result (cc) (cc) c.loop-arc.yielded_by c.in-None.is c.next.ensures.steps in
    relax_end g.met.G.Grading.lawful (arc_at arcs) (Allowed arcs c.args.allowed.now) arcs.points c.args.u c.args.x c.args.best.now (length c.loop-arc.yielded) c.loop-arc.best c.loop-arc.invariant.2 (length arcs.arcs) all
