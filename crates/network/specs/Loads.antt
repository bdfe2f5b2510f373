-- A network under loads.
use Rattle.std.specs.Prelude.{ℕ, ◌-◌, List, map, length, slice_index}
use Rattle.std.specs.List.{range_with_len}
use Rattle.network.specs.declared.line.Line.{Line}
use Rattle.network.specs.Net.{Net, line_at}

-- A line with x channels of its room taken, or all of it where it has no more.
abbrev pub lowered : Line → ℕ → Line
lowered l x = record { from = l.from; to = l.to; terms = record { delay = l.terms.delay; room = l.terms.room - x; charges = l.terms.charges } }

-- Line k of a network, lowered by its load. Past the table's end the load is 0.
abbrev pub lowered_at : Net → List ℕ → ℕ → Line
lowered_at net loads k = lowered (line_at net k) (slice_index loads k)

-- The network with each of its lines lowered.
abbrev pub loaded : Net → List ℕ → Net
loaded net loads = record { points = net.points; lines = map (lowered_at net loads) (range_with_len 0 (length net.lines)) }
