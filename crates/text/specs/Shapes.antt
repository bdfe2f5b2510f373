-- What it is for a text to be a list: its tokens, numbers taken by value and words by name, are those of the list written out.
use Rattle.std.specs.Prelude.{◌≡◌, ℕ, List, [], ◌∷◌, ◌++◌, map, Option, Some}
use Rattle.network.specs.declared.line.Line.{Line as NetLine}
use Rattle.network.specs.Net.{Net}
use Rattle.text.specs.declared.token.Kind.{Kind}
use Rattle.text.specs.declared.token.Kind.TheVariants.{Word, Number, Open, Close, Newline, Bad}
use Rattle.text.specs.declared.words.Name.{Name}
use Rattle.text.specs.declared.words.Name.TheVariants.{Points, Line, End, Delay, Rate, Class, Room, Jitter, Loss}
use Rattle.text.specs.Items.{Item, items}
use Rattle.text.specs.Names.{name_of}
use Rattle.text.specs.Grammar.{value_of}

-- A token without its place and its spelling.
pub data Shape : Type 0 where
  a_mark : Kind → Shape
  a_word : Option Name → Shape
  a_number : ℕ → Shape

-- The shape of bytes of a kind.
abbrev pub shaped : Kind → List ℕ → Shape
shaped Word w = a_word (name_of w)
shaped Number w = a_number (value_of w)
shaped Open w = a_mark Open
shaped Close w = a_mark Close
shaped Newline w = a_mark Newline
shaped Bad w = a_mark Bad

-- The shape of a token.
abbrev pub shape_of : Item → Shape
shape_of t = shaped t.kind t.bytes

-- An inner part, as (delay 1).
abbrev pub part_shapes : Name → ℕ → List Shape
part_shapes w v = a_mark Open ∷ a_word (Some w) ∷ a_number v ∷ a_mark Close ∷ []

-- What follows the word line in the form of a line, with the newline after it.
abbrev pub figures_shapes : NetLine → List Shape
figures_shapes l =
    a_number l.from ∷ a_number l.to ∷ (part_shapes Delay l.terms.delay
    ++ (part_shapes Rate l.terms.charges.rate
    ++ (part_shapes Class l.terms.charges.class
    ++ (part_shapes Room l.terms.room
    ++ (part_shapes Jitter l.terms.charges.jitter
    ++ (part_shapes Loss l.terms.charges.loss
    ++ (a_mark Close ∷ a_mark Newline ∷ [])))))))

-- A line written out: (line from to (delay d) (rate r) (class c) (room g) (jitter j) (loss l)) and a newline.
abbrev pub line_shapes : NetLine → List Shape
line_shapes l = a_mark Open ∷ a_word (Some Line) ∷ figures_shapes l

-- The lines written out one after another, and after them (end) and a newline.
abbrev pub lines_shapes : List NetLine → List Shape
lines_shapes [] = a_mark Open ∷ a_word (Some End) ∷ a_mark Close ∷ a_mark Newline ∷ []
lines_shapes (l ∷ ls) = line_shapes l ++ lines_shapes ls

-- A list of n points and these lines written out: (points n) and a newline, then its lines.
abbrev pub list_shapes : ℕ → List NetLine → List Shape
list_shapes n ls = a_mark Open ∷ a_word (Some Points) ∷ a_number n ∷ a_mark Close ∷ a_mark Newline ∷ lines_shapes ls

-- A text is a list of n points and these lines.
abbrev pub IsList : List ℕ → ℕ → List NetLine → Type 0
IsList text n ls = map shape_of (items 0 text) ≡ list_shapes n ls

-- The text is a list, and the network `is` has its point count, and its lines after those of `was`.
abbrev pub Listed : Net → List ℕ → Net → Type 0
Listed was text is = (ls : List NetLine) × IsList text is.points ls × (is.lines ≡ was.lines ++ ls)
