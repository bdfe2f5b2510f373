use Rattle.std.proofs.Common.{◌≡◌, map, length}
use Rattle.std.specs.List.{range_with_len}
use Rattle.runs.specs.Graphs.{seen_at}
use Rattle.runs.proofs.arcs.Arcs.copied.Given as goal

-- the arcs so far
abbrev pub invariant-loop-k : goal.invariant-loop-k
invariant-loop-k g l =
    (goal.iterator-loop-k g).can_next l.k-iterator
    × (goal.iterator-loop-k g).is_finite l.k-iterator
    × (l.arcs.items ≡ map (seen_at (g.N.Network.net l.network) l.closures l.g) (range_with_len 0 (length l.yielded)))
