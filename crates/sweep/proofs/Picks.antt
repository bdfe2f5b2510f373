-- The turns of the loop that picks a point.
use Rattle.std.proofs.Common.{◌≡◌, ℕ, ◌+◌, Bool, true, false, cond, List, get_or, Some, None, Option, refl, subst, arith, below_more}
use Rattle.sweep.specs.Laws.{Ops, Laws}
use Rattle.sweep.specs.Front.{Picked, better}
use Rattle.sweep.proofs.Basics.{le_same}

-- the value a is no worse than that of point w, unless w is done or has none
abbrev Upto : {V : Type 0} → List Bool → List (Option V) → (V → V → Bool) → V → ℕ → Type 0
Upto {V} done best le a w = (y : V) → get_or done w false ≡ false → get_or best w None ≡ Some y → le a y ≡ true

module _ {V : Type 0} {ops : Ops V} {fits : ℕ → V → Type 0} {clip : V → V} (laws : Laws ops fits clip) (done : List Bool) (best : List (Option V)) where
  -- point v is done, or has no value
  pub picked_pass : (f : Option (ℕ × V)) (v : ℕ) → Picked ops.le v done best f → (get_or done v false ≡ false → get_or best v None ≡ None) → Picked ops.le (v + 1) done best f
  picked_pass None v h k = below_more (λ w. get_or done w false ≡ false → get_or best w None ≡ None) v h k
  picked_pass (Some p) v h k = (omega (arith, h.0), h.1, h.2, below_more (Upto done best ops.le p.1) v h.3 (λ y d b. cc (k d)))

  -- point v has the value x
  pub picked_take : (f : Option (ℕ × V)) (v : ℕ) (x : V) → Picked ops.le v done best f → get_or done v false ≡ false → get_or best v None ≡ Some x → Picked ops.le (v + 1) done best (Some (better ops.le f v x))
  picked_take None v x h d b =
      (omega arith, d, b, below_more (Upto done best ops.le x) v (λ w l y d' b'. cc (h w l d')) (λ y d' b'. subst (λ (z : V). ops.le x z ≡ true) (cc) (le_same laws x)))
  picked_take (Some p) v x h d b = go (ops.le p.1 x) refl
    where
      go : (t : Bool) → ops.le p.1 x ≡ t → Picked ops.le (v + 1) done best (Some (cond t p (v, x)))
      go true e = (omega (arith, h.0), h.1, h.2, below_more (Upto done best ops.le p.1) v h.3 (λ y d' b'. subst (λ (z : V). ops.le p.1 z ≡ true) (cc) e))
      go false e = (omega arith, d, b, below_more (Upto done best ops.le x) v (λ w l y d' b'. laws.trans x p.1 y (laws.total p.1 x e) (h.3 w l y d' b')) (λ y d' b'. subst (λ (z : V). ops.le x z ≡ true) (cc) (le_same laws x)))
