-- The best values of runs: as a relation, and worked out in rounds.
use Rattle.std.specs.Prelude.{◌≡◌, ℕ, zero, suc, ◌<◌, Bool, true, false, cond, ◌&&◌, List, [], ◌∷◌, map, length, Some, None, Option, ◌==◌, slice_index_or}
use Rattle.std.specs.List.{range_with_len}
use Rattle.runs.specs.declared.arc.Arc.{Arc}
use Rattle.runs.specs.Graphs.{Graph}
use Rattle.runs.specs.Runs.{Run, value}
use Rattle.sweep.specs.Laws.{Ops}

-- Arc k may be used: there is one with that number, and its mark is true. Marks past the end of the list count as false.
abbrev pub Allowed : Graph → List Bool → ℕ → Type 0
Allowed graph marks k = (k < length graph.arcs) × (slice_index_or marks k false ≡ true)

-- The best value over all runs of usable arcs from s to v, or none where there is no run.
abbrev pub BestAt : {V : Type 0} → Ops V → (ℕ → Arc) → (ℕ → Type 0) → ℕ → ℕ → Option V → Type 0
BestAt ops arc usable s v None = (ks : List ℕ) → Run arc usable s ks v → ⊥
BestAt ops arc usable s v (Some x) = ((ks : List ℕ) × Run arc usable s ks v × (value ops.ext arc ops.begin ks ≡ x)) × ((ks : List ℕ) → Run arc usable s ks v → ops.le x (value ops.ext arc ops.begin ks) ≡ true)

-- For each point below n, the table has at its place the best value over all runs of usable arcs from s to it, or none where there is no run.
abbrev pub HoldsBest : {V : Type 0} → Ops V → (ℕ → Arc) → (ℕ → Type 0) → ℕ → ℕ → List (Option V) → Type 0
HoldsBest ops arc usable n s table = (v : ℕ) → v < n → BestAt ops arc usable s v (slice_index_or table v None)

-- A value with one arc more, or none.
abbrev pub through : {V : Type 0} → Ops V → Option V → Arc → Option V
through ops None a = None
through ops (Some x) a = Some (ops.ext x a)

-- The better of two values, the first where neither is better.
abbrev pub better_of : {V : Type 0} → Ops V → Option V → Option V → Option V
better_of ops None o = o
better_of ops (Some x) None = Some x
better_of ops (Some x) (Some y) = cond (ops.le x y) (Some x) (Some y)

-- The best that point v can have: the value so far, or what an allowed arc to v makes of its start's value in the old table.
abbrev pub reached : {V : Type 0} → Ops V → List (Option V) → ℕ → List Arc → List Bool → Option V → Option V
reached ops old v [] marks best = best
reached ops old v (a ∷ arcs) [] best = best
reached ops old v (a ∷ arcs) (mark ∷ marks) best = reached ops old v arcs marks (cond (mark && a.to == v) (better_of ops best (through ops (slice_index_or old a.from None) a)) best)

-- One round: each point keeps its value, or takes a better one by one allowed arc more.
abbrev pub round : {V : Type 0} → Ops V → Graph → List Bool → List (Option V) → List (Option V)
round ops graph marks old = map (λ v. reached ops old v graph.arcs marks (slice_index_or old v None)) (range_with_len 0 graph.points)

-- So many rounds, one after the other.
unfoldable pub rounds : {V : Type 0} → Ops V → Graph → List Bool → ℕ → List (Option V) → List (Option V)
rounds ops graph marks zero table = table
rounds ops graph marks (suc j) table = rounds ops graph marks j (round ops graph marks table)

-- Before the first round: only s has a value, that of the empty run.
abbrev pub start_table : {V : Type 0} → Ops V → ℕ → ℕ → List (Option V)
start_table ops n s = map (λ v. cond (v == s) (Some ops.begin) None) (range_with_len 0 n)

-- The best values from s, a place for each point: 64 rounds, since there are at most 64 points.
unfoldable pub best_table : {V : Type 0} → Ops V → Graph → List Bool → ℕ → List (Option V)
best_table ops graph marks s = rounds ops graph marks 64 (start_table ops graph.points s)
