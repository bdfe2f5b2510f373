-- What a search sees of a network keeps the network's ranges.
use Rattle.std.proofs.Common.{ℕ, ◌<◌, ◌≤◌, List, length, sym, subst, ⊎_elim, arith}
use Rattle.std.proofs.lemmas.Bool.{cases_lt}
use Rattle.std.proofs.lemmas.List.{get_or_past}
use Rattle.std.proofs.lemmas.List.FromFn.{get_or-map-range_with_len, length-map-range_with_len}
use Rattle.network.specs.Net.{Net, Ranged}
use Rattle.runs.specs.Graphs.{Fit, no_arc, arc_at, seen_at, graph_of}

module _ (net : Net) (closures : List ℕ) (g : ℕ) (ranged : Ranged net) where
  pub graph_fit : (k : ℕ) → Fit net.points (arc_at (graph_of net closures g) k)
  graph_fit k = ⊎_elim
      (λ (lt : k < length net.lines).
      let line = ranged.fit k in
      subst (Fit net.points) (sym (get_or-map-range_with_len (seen_at net closures g) 0 (length net.lines) k k no_arc lt (omega arith)))
      (record { from_below = line.from_below; to_below = line.to_below; delay_most = line.delay_most; room_most = line.room_most }))
      (λ (le : length net.lines ≤ k).
      let least = ranged.points_least in
      let long = length-map-range_with_len (seen_at net closures g) 0 (length net.lines) in
      subst (Fit net.points) (sym (get_or_past (graph_of net closures g).arcs k no_arc (omega arith)))
      (record { from_below = omega arith; to_below = omega arith; delay_most = omega arith; room_most = omega arith }))
      (cases_lt k (length net.lines))
