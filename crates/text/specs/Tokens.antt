-- What the tokens of a text are, in words of their own: they account for every byte, and each run is as long as it can be.
use Rattle.std.specs.Prelude.{◌≡◌, ℕ, ◌+◌, ◌<◌, true, false, List, [], ◌∷◌, ◌++◌, length, Option, Some, None}
use Rattle.std.specs.List.{AllByRecursion}
use Rattle.text.specs.declared.token.Kind.{Kind}
use Rattle.text.specs.Items.{Item, class, goes_on}

-- All bytes are of one kind, or all are spaces.
abbrev pub OfKind : Option Kind → List ℕ → Type 0
OfKind k bs = AllByRecursion (λ b. class b ≡ k) bs

-- The bytes do not go on with that kind.
abbrev pub Stops : Kind → List ℕ → Type 0
Stops k [] = Unit {0}
Stops k (b ∷ bs) = class b ≡ Some k → ⊥

-- A token where `rest` follows it: at least one byte, all of its kind. A word or a number goes on as
-- long as it can, and any other token is one byte.
pub record Stands (t : Item) (rest : List ℕ) : Type 0 where
  pub some : 0 < length t.bytes
  pub pure : OfKind (Some t.kind) t.bytes
  pub run : goes_on t.kind t.kind ≡ true → Stops t.kind rest
  pub single : goes_on t.kind t.kind ≡ false → length t.bytes ≡ 1

-- The tokens cut the bytes from place n on: spaces, then a token at its place, and so on; after the last only spaces.
abbrev pub Cuts : ℕ → List ℕ → List Item → Type 0
Cuts n bs [] = OfKind None bs
Cuts n bs (t ∷ ts) = (spaces : List ℕ) × (rest : List ℕ) × (bs ≡ spaces ++ (t.bytes ++ rest)) × OfKind None spaces × (t.place ≡ n + length spaces) × Stands t rest × Cuts (t.place + length t.bytes) rest ts
