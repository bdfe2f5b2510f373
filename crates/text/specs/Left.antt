-- What a reader has still to read.
use Rattle.std.specs.Prelude.{ℕ, List, length}
use Rattle.text.specs.Items.{Item, items}

-- The length of the whole text, and the items still to come.
pub record Left : Type 0 where
  pub size : ℕ
  pub items : List Item

-- What a reader at the beginning of a text has to read.
abbrev pub left_of : List ℕ → Left
left_of text = record { size = length text; items = items 0 text }
