-- What a search sees of a network: points, and arcs that are open or not.
use Rattle.std.specs.Prelude.{ℕ, ◌<◌, ◌≤◌, Bool, false, ◌&&◌, List, [], ◌∷◌, map, length, ◌==◌, nat_le, slice_index, slice_index_or}
use Rattle.std.specs.List.{range_with_len}
use Rattle.network.specs.declared.line.Line.{Line}
use Rattle.network.specs.Net.{Net, line_at}
use Rattle.network.specs.Refusals.{Question, asks}
use Rattle.runs.specs.declared.arc.Arc.{Arc}

-- How many points there are, numbered from 0, and the arcs, numbered from 0 by their place in the list.
pub record Graph : Type 0 where
  pub points : ℕ
  pub arcs : List Arc

-- Where there is no arc, every number is 0, and it is not open.
abbrev pub no_arc : Arc
no_arc = record { from = 0; to = 0; delay = 0; room = 0; «open» = false }

-- Arc k of a graph.
abbrev pub arc_at : Graph → ℕ → Arc
arc_at graph k = slice_index_or graph.arcs k no_arc

-- The arc of a line with this closure byte, for g channels: open if the byte is 0 and the line has room for g.
abbrev pub arc_of : Line → ℕ → ℕ → Arc
arc_of line byte g = record { from = line.from; to = line.to; delay = line.terms.delay; room = line.terms.room; «open» = byte == 0 && nat_le g line.terms.room }

-- Arc k of a network under these closure bytes, for g channels.
abbrev pub seen_at : Net → List ℕ → ℕ → ℕ → Arc
seen_at net closures g k = arc_of (line_at net k) (slice_index closures k) g

-- The graph of a network under these closure bytes, for g channels: an arc for each line, in their order.
abbrev pub graph_of : Net → List ℕ → ℕ → Graph
graph_of net closures g = record { points = net.points; arcs = map (seen_at net closures g) (range_with_len 0 (length net.lines)) }

-- The question that a closure list of so many bytes must pass: at least one for each line.
abbrev pub closure_question : Net → ℕ → List Question
closure_question net bytes = asks 16 (nat_le (length net.lines) bytes) ∷ []

-- Whether arc k is open, for each k below 512; not where there is no arc.
unfoldable pub open_marks : Graph → List Bool
open_marks graph = map (λ k. (arc_at graph k).«open») (range_with_len 0 512)

-- What holds of the arc at any number in a graph of n points.
pub record Fit (n : ℕ) (a : Arc) : Type 0 where
  pub from_below : a.from < n
  pub to_below : a.to < n
  pub delay_most : a.delay ≤ 1000000
  pub room_most : a.room ≤ 1000

-- What every graph of a network keeps. The last four hold past the last arc too, where every number is 0.
pub record Sound (graph : Graph) : Type 0 where
  pub points_least : 2 ≤ graph.points
  pub points_most : graph.points ≤ 64
  pub few : length graph.arcs ≤ 512
  pub from_below : (k : ℕ) → (arc_at graph k).from < graph.points
  pub to_below : (k : ℕ) → (arc_at graph k).to < graph.points
  pub delay_most : (k : ℕ) → (arc_at graph k).delay ≤ 1000000
  pub room_most : (k : ℕ) → (arc_at graph k).room ≤ 1000
