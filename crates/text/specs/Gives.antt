-- What the lexer answers, as items.
use Rattle.std.specs.Prelude.{◌≡◌, List, [], ◌∷◌, Some, None, Ok, Err, Option, Result, ◌≢◌}
use Rattle.text.specs.declared.token.Kind.TheVariants.{Bad}
use Rattle.text.specs.declared.token.Token.{Token}
use Rattle.text.specs.declared.fault.At.{At}
use Rattle.text.specs.declared.fault.CharCause.{CharCause}
use Rattle.text.specs.declared.fault.CharCause.TheVariants.{BadByte}
use Rattle.text.specs.Items.{Item}

-- A token of the code as an item.
abbrev pub item : Token → Item
item t = record { kind = t.kind; place = t.place; bytes = t.bytes.now }

-- The items that the lexer's answer is: one or none.
abbrev pub shown : Option Token → List Item
shown None = []
shown (Some t) = item t ∷ []

-- The answer is the first of the items `was`, and `left` are the others; a bad byte is answered as a fault at its place.
abbrev pub Next : List Item → Result (Option Token) (At CharCause) → List Item → Type 0
Next was (Ok None) left = (was ≡ []) × (left ≡ [])
Next was (Ok (Some t)) left = (was ≡ item t ∷ left) × (t.kind ≢ Bad)
Next was (Err f) left = (t : Item) × (was ≡ t ∷ left) × (t.kind ≡ Bad) × (f ≡ record { cause = BadByte; place = t.place })
