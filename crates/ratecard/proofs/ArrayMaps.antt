-- What an array's `map` gives, as a list.
use Rattle.std.proofs.Common.{◌≡◌, ℕ, zero, suc, ◌+◌, ◌<◌, List, ◌∷◌, length, drop, map, sym, refl, ap, subst, ◌∙◌, arith}
use Rattle.std.proofs.lemmas.List.{drop_all, drop_more}
use Rattle.std.specs.Array.{IsElementAt, IsMapOf, MapsFrom}
use Rattle.std.specs.Fn.{Called, Mut}

-- a closure that changes nothing and answers h of each element gives h of each element in turn
module _ {F A B : Type 0} (g : Mut F (A × Unit {0}) B) (h : A → B) (f : F) (pure : (x : A) (y : B) (q : F) → Called g f (x, tt) y q → (q ≡ f) × (y ≡ h x)) (xs : List A) (ys : List B) (same : length xs ≡ length ys) where
  element : {X : Type 0} (zs : List X) (i : ℕ) (z : X) → i < length zs → IsElementAt zs i z → drop i zs ≡ z ∷ drop (i + 1) zs
  element zs i z l e = drop_more zs i z l ∙ ap (λ y. y ∷ drop (i + 1) zs) e.0

  from : (n i : ℕ) (p : F) → p ≡ f → i + n ≡ length ys → MapsFrom g p xs ys i n → drop i ys ≡ map h (drop i xs)
  from zero i p s e m = drop_all i ys (omega arith) ∙ ap (map h) (sym (drop_all i xs (omega arith)))
  from (suc n) i p s e m =
      let call = pure m.1 m.2 m.0 (subst (λ (k : F). Called g k (m.1, tt) m.2 m.0) s m.5) in
      let rest = from n (i + 1) m.0 call.0 (omega arith) m.6 in
      let head = element ys i m.2 (omega arith) m.4 in
      let back = ap (map h) (element xs i m.1 (omega arith) m.3) in
      cc

  pub mapped : (n : ℕ) → IsMapOf g f xs ys n → ys ≡ map h xs
  mapped n m = from n 0 f refl (omega (arith, m.long)) m.each
