-- What holds in the middle of a sweep: cited by the contracts of inner functions only.
use Rattle.std.specs.Prelude.{◌≡◌, ℕ, suc, ◌+◌, ◌<◌, ◌≤◌, Bool, true, false, cond, List, [], ◌∷◌, length, Some, None, Option, slice_index_or}
use Rattle.runs.specs.declared.arc.Arc.{Arc}
use Rattle.runs.specs.Runs.{Run, value}
use Rattle.sweep.specs.Laws.{Ops}

-- What an offer of y leaves at a place that holds o.
abbrev pub kept : {V : Type 0} → (V → V → Bool) → Option V → V → Option V
kept le None y = Some y
kept le (Some z) y = cond (le z y) (Some z) (Some y)

-- The point picked so far, or v with the value x where that is better.
abbrev pub better : {V : Type 0} → (V → V → Bool) → Option (ℕ × V) → ℕ → V → ℕ × V
better le None v x = (v, x)
better le (Some p) v x = cond (le p.1 x) p (v, x)

-- Of the points below n that are not done, the one whose value is no worse than any other's.
abbrev pub Picked : {V : Type 0} → (V → V → Bool) → ℕ → List Bool → List (Option V) → Option (ℕ × V) → Type 0
Picked {V} le n done best None = (v : ℕ) → v < n → slice_index_or done v false ≡ false → slice_index_or best v None ≡ None
Picked {V} le n done best (Some p) = (p.0 < n) × (slice_index_or done p.0 false ≡ false) × (slice_index_or best p.0 None ≡ Some p.1) × ((v : ℕ) → v < n → (y : V) → slice_index_or done v false ≡ false → slice_index_or best v None ≡ Some y → le p.1 y ≡ true)

-- How many points are not done.
abbrev pub left : List Bool → ℕ
left [] = 0
left (d ∷ ds) = cond d (left ds) (suc (left ds))

-- A run from s to v has the value y, and so few arcs that `more` others can follow within 64.
abbrev pub Made : {V : Type 0} → Ops V → (ℕ → Arc) → (ℕ → Type 0) → ℕ → ℕ → ℕ → V → Type 0
Made ops arc usable s more v y = (ks : List ℕ) × Run arc usable s ks v × (value ops.ext arc ops.begin ks ≡ y) × (length ks + more ≤ 64)

-- `done` splits the points: all done are no worse than x, which is no worse than the others;
-- the arcs of done points are worked in, those of u below number k alone.
pub record Front {V : Type 0} (ops : Ops V) (arc : ℕ → Arc) (usable : ℕ → Type 0) (n s : ℕ) (done : List Bool) (u k : ℕ) (x : V) (best : List (Option V)) : Type 0 where
  pub made : (v : ℕ) (y : V) → v < n → slice_index_or best v None ≡ Some y → Made ops arc usable s (left done) v y
  pub low : (a : ℕ) → slice_index_or done a false ≡ true → (z : V) × (slice_index_or best a None ≡ Some z) × (ops.le z x ≡ true)
  pub high : (b : ℕ) (y : V) → b < n → slice_index_or done b false ≡ false → slice_index_or best b None ≡ Some y → ops.le x y ≡ true
  pub closed : (j : ℕ) (y : V) → usable j → slice_index_or done (arc j).from false ≡ true → ((arc j).from ≡ u → j < k) → slice_index_or best (arc j).from None ≡ Some y → (z : V) × (slice_index_or best (arc j).to None ≡ Some z) × (ops.le z (ops.ext y (arc j)) ≡ true)
  pub begun : (z : V) × (slice_index_or best s None ≡ Some z) × (ops.le z ops.begin ≡ true)

-- Work on the arcs of u below k, which turned `before` into `after`, is a part of every sweep that has picked u.
abbrev pub Keeps : {V : Type 0} → Ops V → (ℕ → Arc) → (ℕ → Type 0) → ℕ → ℕ → V → List (Option V) → ℕ → List (Option V) → Type 0
Keeps ops arc usable n u x before k after = (s : ℕ) (done : List Bool) → slice_index_or done u false ≡ true → Made ops arc usable s (left done + 1) u x
    → Front ops arc usable n s done u 0 x before × (slice_index_or before u None ≡ Some x)
    → Front ops arc usable n s done u k x after × (slice_index_or after u None ≡ Some x)
