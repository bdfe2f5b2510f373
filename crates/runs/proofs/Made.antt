-- An array that is made by a function of the place.
use Rattle.std.proofs.Common.{◌≡◌, ℕ, zero, suc, ◌+◌, ◌<◌, ◌≤◌, List, map, get_or, sym, ◌∙◌, subst, ⊎_elim, arith}
use Rattle.std.specs.Array.{IsFromFnResult, IsFromFnResultFrom}
use Rattle.std.specs.Fn.{Called}
use Rattle.std.specs.List.{range_with_len}
use Rattle.std.proofs.lemmas.Bool.{cases_eq}
use Rattle.std.proofs.lemmas.List.FromFn.{fill_by_all}
use denote.Param.Members.{Mut}

module _ {F B : Type 0} (g : Mut F (ℕ × Unit {0}) B) (f : F) (h : ℕ → B) (most : ℕ) (same : (i : ℕ) (y : B) (q : F) → i < most → Called g f (i, tt) y q → (q ≡ f) × (y ≡ h i)) where
  -- each call gives h of the place, and leaves the closure as it was
  made_at : (ys : List B) (i n : ℕ) → i + n ≤ most → IsFromFnResultFrom g f ys i n → (k : ℕ) (d : B) → i ≤ k → k < i + n → get_or ys k d ≡ h k
  made_at ys i zero l r k d low high = absurd (omega arith)
  made_at ys i (suc n) l r k d low high =
      let s = same i r.1 r.0 (omega arith) r.3 in
      ⊎_elim
      (λ (e : k ≡ i). subst (λ (j : ℕ). get_or ys j d ≡ h j) (sym e) (r.2.1 d ∙ s.1))
      (λ ne. made_at ys (i + 1) n (omega arith) (subst (λ (q : F). IsFromFnResultFrom g q ys (i + 1) n) s.0 r.4) k d (omega arith) (omega arith))
      (cases_eq k i)

  pub map-from_from_fn : (ys : List B) (d : B) → IsFromFnResult g f ys most → ys ≡ map h (range_with_len 0 most)
  map-from_from_fn ys d r = fill_by_all h ys most d r.long (λ k lt. made_at ys 0 most (omega arith) r.each k d (omega arith) (omega arith))
