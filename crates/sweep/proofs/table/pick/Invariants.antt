use Rattle.std.proofs.Common.{length}
use Rattle.sweep.specs.Front.{Picked}
use Rattle.sweep.proofs.table.pick.Given as goal

-- the best point so far
abbrev pub invariant-loop-v : goal.invariant-loop-v
invariant-loop-v g l = Picked g.G.Grading.ops.le (length l.yielded) l.done l.best l.found
