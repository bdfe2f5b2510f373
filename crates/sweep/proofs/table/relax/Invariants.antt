use Rattle.std.proofs.Common.{length}
use Rattle.runs.specs.Graphs.{arc_at}
use Rattle.runs.specs.Held.{graph}
use Rattle.sweep.specs.Best.{Allowed}
use Rattle.sweep.specs.Front.{Keeps}
use Rattle.sweep.proofs.table.relax.Given as goal

-- the arcs of u so far are worked in
abbrev pub invariant-loop-arc : goal.invariant-loop-arc
invariant-loop-arc g l =
    (goal.iterator-loop-arc g).can_next l.arc-iterator
    × (goal.iterator-loop-arc g).is_finite l.arc-iterator
    × Keeps g.G.Grading.ops (arc_at (graph l.arcs)) (Allowed (graph l.arcs) l.fn.allowed) (graph l.arcs).points l.u l.x l.initial.best (length l.yielded) l.best
