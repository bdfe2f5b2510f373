use Rattle.std.proofs.Common.{◌≡◌, ◌<◌, ◌≤◌, ltb, leb, ◌++◌, length, drop, sym, ap, ◌∙◌, arith}
use Rattle.std.proofs.lemmas.Bool.{ltb-true, leb-true}
use Rattle.std.proofs.lemmas.List.{length-take-le}
use Rattle.network.specs.Refusals.{left_by}
use Rattle.runs.specs.Held.{graph, sound}
use Rattle.sweep.specs.Best.{best_table}
use Rattle.sweep.specs.Values.{sweep_questions, swept_table}
use Rattle.sweep.proofs.Judged.{asked, judged_same}
use Rattle.sweep.proofs.Rounds.{same_table}
use Rattle.sweep.proofs.table.sweep.Goals as goal

pub returns-clause-table : goal.returns-clause-table
returns-clause-table g c =
    let arcs = graph c.args.arcs.now in
    let marks = c.args.allowed.now in
    let was = c.args.best.now in
    let ok = c.in_ok-judge_sweep.ensures in
    let a = asked (ltb c.args.s arcs.points) 11 tt _ ok in
    let b = asked (leb arcs.points (length was)) 17 tt _ a.1 in
    let sn : c.args.s < arcs.points = ltb-true _ _ a.0 in
    let places : arcs.points ≤ length was = leb-true _ _ b.0 in
    let long : length c.settle.new.best ≡ arcs.points = c.settle.auto.best ∙ length-take-le c.points-n.result was (omega (arith, places, c.points-n.ensures)) ∙ c.points-n.ensures in
    let same = same_table g.met.G.Grading.lawful arcs marks (sound c.args.arcs.now) c.args.s sn c.settle.new.best long c.settle.ensures.best c.settle.ensures.short in
    ap (λ t. t ++ drop c.points-n.result was) same ∙ ap (λ n. best_table g.G.Grading.ops arcs marks c.args.s ++ drop n was) c.points-n.ensures
    ∙ sym (ap (left_by was) (judged_same (sweep_questions arcs c.args.s (length was)) tt tt (swept_table g.G.Grading.ops arcs marks c.args.s was) ok))
