-- The first empty line, by the pairs of neighbours in a text.
use Rattle.std.proofs.Common.{◌≡◌, ℕ, suc, ◌+◌, ◌<◌, Bool, true, false, cond, ◌&&◌, eqb, List, [], ◌∷◌, length, drop, Option, Some, None, MatchOption, unwrap_or, nat_eq, sym, refl, ap, ◌∙◌, arith, ⊎_elim}
use Rattle.std.proofs.lemmas.Bool.{cases_Bool, false≢true, eqb-true, eq-eqb}
use Rattle.std.proofs.lemmas.Iterator.{index_from_first}
use Rattle.std.specs.List.{AllWithin, HoldsAt, starts_with, zip}
use Rattle.dialogue.specs.Parts.{parting}

-- each byte with the next
abbrev pub pairs : List ℕ → List (ℕ × ℕ)
pairs bs = zip bs (drop 1 bs)

-- whether a pair is two newlines
abbrev pub two_newlines : ℕ × ℕ → Bool
two_newlines p = eqb p.0 10 && eqb p.1 10

-- how many pairs stand before the first two newlines
abbrev before : List (ℕ × ℕ) → ℕ
before [] = 0
before (p ∷ ps) = cond (two_newlines p) 0 (suc (before ps))

parting_at : (a : ℕ) (bs : List ℕ) → parting (eqb a 10) bs ≡ before (zip (a ∷ bs) bs)
parting_at a [] = refl
parting_at a (b ∷ bs) = go (eqb a 10) (eqb b 10) _ _ (parting_at b bs)
  where
    go : (u v : Bool) (m n : ℕ) → m ≡ n → cond (u && v) 0 (suc m) ≡ cond (u && v) 0 (suc n)
    go u v m n e = ap (λ k. cond (u && v) 0 (suc k)) e

long : (a : ℕ) (bs : List ℕ) → length (zip (a ∷ bs) bs) ≡ length bs
long a [] = refl
long a (b ∷ bs) = ap suc (long b bs)

abbrev pub IsFirstPair : List ℕ → Option ℕ → Type 0
IsFirstPair bs r = MatchOption r (AllWithin (λ p. two_newlines p ≡ false) (pairs bs) 0 (length (pairs bs))) (λ i. (i < length (pairs bs)) × HoldsAt (λ p. two_newlines p ≡ true) (pairs bs) i × AllWithin (λ p. two_newlines p ≡ false) (pairs bs) 0 i)

counted : (bs : List ℕ) (r : Option ℕ) → IsFirstPair bs r → before (pairs bs) ≡ unwrap_or r (length (pairs bs))
counted bs r h = index_from_first before (λ p. two_newlines p ≡ true) (λ p. two_newlines p ≡ false) refl (λ p ps t. ap (λ v. cond v 0 (suc (before ps))) t) (λ p ps f. ap (λ v. cond v 0 (suc (before ps))) f ∙ omega arith) (pairs bs) r h

-- a text that begins with no newline has its first empty line after its first two newlines
begins : (b : ℕ) (bs : List ℕ) → starts_with nat_eq (b ∷ bs) (10 ∷ []) ≡ false → parting true (b ∷ bs) ≡ suc (before (zip (b ∷ bs) bs))
begins b bs h =
    let other : eqb b 10 ≡ false = ⊎_elim (λ (t : eqb b 10 ≡ true). absurd (false≢true (sym h ∙ ap (λ v. v && true) (eq-eqb 10 b (sym (eqb-true b 10 t)))))) (λ (f : eqb b 10 ≡ false). f) (cases_Bool (eqb b 10)) in
    ap (λ v. cond v 0 (suc (parting (eqb b 10) bs))) other ∙ ap suc (parting_at b bs)

empty_at : (bs : List ℕ) (i : ℕ) → starts_with nat_eq bs (10 ∷ []) ≡ false → IsFirstPair bs (Some i) → i + 1 ≡ parting true bs
empty_at [] i h p = absurd (omega (arith, p.0))
empty_at (b ∷ bs) i h p = let e = begins b bs h in let n = counted (b ∷ bs) (Some i) p in omega (arith, e, n)

empty_nowhere : (bs : List ℕ) → starts_with nat_eq bs (10 ∷ []) ≡ false → IsFirstPair bs None → length bs ≡ parting true bs
empty_nowhere [] h p = refl
empty_nowhere (b ∷ bs) h p = let e = begins b bs h in let n = counted (b ∷ bs) None p in omega (arith, e, n, long b bs)

-- the place after the pair that was found, or the end where none was
pub empty_from : (bs : List ℕ) (o : Option ℕ) (r : ℕ) → starts_with nat_eq bs (10 ∷ []) ≡ false → IsFirstPair bs o → MatchOption o (r ≡ length bs) (λ i. r ≡ i + 1) → r ≡ parting true bs
empty_from bs None r h p m = m ∙ empty_nowhere bs h p
empty_from bs (Some i) r h p m = m ∙ empty_at bs i h p
