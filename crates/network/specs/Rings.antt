-- The ring.
use Rattle.std.specs.Prelude.{ℕ, ◌+◌, ◌-◌, ◌*◌, ◌%◌, cond, ◌&&◌, [], ◌∷◌, map, Result, nat_le, nat_lt}
use Rattle.std.specs.List.{range_with_len}
use Rattle.network.specs.declared.line.Line.{Line}
use Rattle.network.specs.declared.line.Terms.{Terms}
use Rattle.network.specs.Net.{Net, in_range}
use Rattle.network.specs.Refusals.{asks, judged}

-- Line k below n leads from point k to the next, and line n + k back.
abbrev pub ring_line : ℕ → Terms → ℕ → Line
ring_line n t k = cond (nat_lt k n) (record { from = k; to = (k + 1) % n; terms = t }) (record { from = (k - n + 1) % n; to = k - n; terms = t })

-- The ring of n points has 2n lines.
abbrev pub ring : ℕ → Terms → Net
ring n t = record { points = n; lines = map (ring_line n t) (range_with_len 0 (2 * n)) }

-- The ring, or the refusal of a number that is out of range. The room may be 0.
abbrev pub ring_taken : ℕ → Terms → Result Net ℕ
ring_taken n t = judged (asks 4 (nat_le 2 n && (nat_le n 64 && in_range 0 t)) ∷ []) (ring n t)
