-- Lists of questions that pass.
use Rattle.std.proofs.Common.{◌≡◌, ℕ, Bool, true, false, cond, List, [], ◌∷◌, Ok, Err, Result, refl}
use Rattle.network.specs.Refusals.{Question, judged}

passes : {A B : Type 0} (t : Bool) (n : ℕ) (r : A) (x : Result A ℕ) (y z : Result B ℕ) → Ok r ≡ cond t x (Err n) → (Ok r ≡ x → y ≡ z) → cond t y (Err n) ≡ z
passes true n r x y z e k = k e
passes false n r x y z e k = cc

-- questions that let one value through let every value through
pub judged_same : {A B : Type 0} (qs : List Question) (r a : A) (b : B) → Ok r ≡ judged qs a → judged qs b ≡ Ok b
judged_same [] r a b e = refl
judged_same (q ∷ qs) r a b e = passes q.yes q.number r (judged qs a) (judged qs b) (Ok b) e (judged_same qs r a b)

-- a question that passes
pub asked : {A : Type 0} (t : Bool) (n : ℕ) (r : A) (x : Result A ℕ) → Ok r ≡ cond t x (Err n) → (t ≡ true) × (Ok r ≡ x)
asked true n r x e = (refl, e)
asked false n r x e = cc
