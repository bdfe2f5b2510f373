use Rattle.std.proofs.Common.{◌≡◌, ◌<◌, ◌≤◌, leb, length, None, Ok, sym, refl, subst, arith}
use Rattle.std.proofs.lemmas.List.{get_or_read}
use Rattle.std.proofs.lemmas.Bool.{leb-true}
use Rattle.runs.specs.Graphs.{seen_at, graph_of}
use Rattle.runs.specs.Held.{graph}
use Rattle.sweep.specs.Best.{BestAt}
use Rattle.sweep.specs.Values.{OpenLine, Says}
use Rattle.sweep.proofs.Filled.{Filled, filled, says_found}
use Rattle.sweep.proofs.Judged.{asked}
use Rattle.sweep.proofs.values.reach.Goals as goal
use Rattle.sweep.proofs.values.reach.Goals.{In_ok-sweep}

-- the sweep has filled the table
done : (g : _) (c : In_ok-sweep g) → Filled g.G.Grading.ops c.args.s c.args.table.now c.sweep.new.best (Ok tt) (g.N.Network.net c.args.network.now) c.args.closures.now c.args.g
done g c =
    let net = g.N.Network.net c.args.network.now in
    let closures = c.args.closures.now in
    let arcs = graph c.in_ok-arcs.arcs in
    let a = asked (leb (length net.lines) (length closures)) 16 arcs _ c.in_ok-arcs.ensures in
    let ok = a.1 in
    let e : arcs ≡ graph_of net closures c.args.g = cc in
    let h = c.in_ok-sweep.ensures in
    filled g.G.Grading.ops net closures c.args.g c.args.s c.requires.start (g.N.Network.ranged c.args.network.now).few a.0 c.args.table.now c.sweep.new.best (Ok tt) arcs c.open_marks.result e c.open_marks.ensures (h.answer, h.table, h.best)

pub returns-clause-best : goal.returns-clause-best
returns-clause-best g c = λ _. (done g (goal.at.returns-clause-best g c).In_ok-sweep).2 refl

pub returns-clause-says : goal.returns-clause-says
returns-clause-says g c =
    let net = g.N.Network.net c.args.network.now in
    let closures = c.args.closures.now in
    let f = done g (goal.at.returns-clause-says g c).In_ok-sweep in
    let ops = g.G.Grading.ops in
    let b = asked (leb net.points (length c.args.table.now)) 17 (tt {0}) _ (asked (leb (length net.lines) (length closures)) 16 (tt {0}) _ f.0).1 in
    let places : net.points ≤ length c.args.table.now = leb-true _ _ b.0 in
    let within : c.args.t < length c.sweep.new.best = omega (arith, places, c.sweep.auto.best, c.requires.end) in
    let read = get_or_read c.sweep.new.best c.args.t c.index-table-t.result within c.index-table-t.is None in
    let best = subst (BestAt ops (seen_at net closures c.args.g) (OpenLine net closures c.args.g) c.args.s c.args.t) (sym read) (f.2 refl c.args.t c.requires.end) in
    λ _. subst (Says ops net closures c.args.g c.args.s c.args.t) (sym c.found.ensures) (says_found ops net closures c.args.g c.args.s c.args.t c.index-table-t.result best)
