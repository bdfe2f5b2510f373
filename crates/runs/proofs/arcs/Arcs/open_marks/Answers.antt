use Rattle.std.proofs.Common.{false, rules}
use Rattle.runs.specs.Graphs.{arc_at, open_marks}
use Rattle.runs.specs.Held.{graph}
use Rattle.runs.proofs.Made.{map-from_from_fn}
use Rattle.runs.proofs.arcs.Arcs.open_marks.Goals as goal

pub returns : goal.returns
unfolding open_marks
returns c = map-from_from_fn _ _ (λ k. (arc_at (graph c.args.self.now) k).«open») 512 (λ i y q lt h. search rules) c.from_fn.result false c.from_fn.ensures.items
