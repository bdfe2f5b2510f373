use Rattle.std.proofs.Common.{ℕ, length}
use Rattle.runs.specs.Graphs.{arc_at}
use Rattle.runs.specs.Held.{graph}
use Rattle.sweep.specs.Best.{Allowed}
use Rattle.sweep.specs.Front.{Front, left}
use Rattle.sweep.proofs.table.settle.Given as goal

-- the points done are no worse than the others, and their arcs are worked in
abbrev pub invariant-loop-next : goal.invariant-loop-next
invariant-loop-next g l =
    (a : ℕ) × (y : _) × Front g.G.Grading.ops (arc_at (graph l.arcs)) (Allowed (graph l.arcs) l.allowed) (graph l.arcs).points l.s l.done a (length (graph l.arcs).arcs) y l.best

-- how many points are not done
abbrev pub decreases-loop-next : goal.decreases-loop-next
decreases-loop-next g l = left l.done
