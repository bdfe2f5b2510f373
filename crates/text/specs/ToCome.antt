-- What a lexer has still to give.
use Rattle.std.specs.Prelude.{List, length}
use Rattle.text.specs.declared.lexer.Lexer.{Lexer}
use Rattle.text.specs.Items.{Item, rest}
use Rattle.text.specs.Left.{Left}

abbrev pub to_come : Lexer → List Item
to_come l = rest l.state l.from l.at l.text.now

-- The same with the length of its text.
abbrev pub left_in : Lexer → Left
left_in l = record { size = length l.text.now; items = to_come l }
