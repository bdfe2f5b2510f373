-- Number, place and layer of each fault.
use Rattle.std.specs.Prelude.{ℕ, cond, nat_le}
use Rattle.network.specs.Refusals.{number_of}
use Rattle.text.specs.declared.fault.CharCause.{CharCause}
use Rattle.text.specs.declared.fault.CharCause.TheVariants.{TooLong, BadByte}
use Rattle.text.specs.declared.fault.FormCause.{FormCause}
use Rattle.text.specs.declared.fault.FormCause.TheVariants.{Grammar, Number}
use Rattle.text.specs.declared.fault.FormFault.{FormFault}
use Rattle.text.specs.declared.fault.FormFault.TheVariants.{Chars, Form}
use Rattle.text.specs.declared.fault.Layer.{Layer}
use Rattle.text.specs.declared.fault.Layer.TheVariants.{Characters, Forms as InForms, List as InList}
use Rattle.text.specs.declared.fault.TextFault.{TextFault}
use Rattle.text.specs.declared.fault.TextFault.TheVariants.{Forms, List}
use Rattle.text.specs.Grammar.{Out, fault}

-- The numbers of the questions that each layer asks.
abbrev pub char_number : CharCause → ℕ
char_number TooLong = 1
char_number BadByte = 2

abbrev pub form_number : FormCause → ℕ
form_number Grammar = 3
form_number Number = 4

-- A fault of the code, as what a pass ends with.
abbrev pub form_out : FormFault → Out
form_out (Chars f) = fault (char_number f.cause) f.place
form_out (Form f) = fault (form_number f.cause) f.place

abbrev pub text_out : TextFault → Out
text_out (Forms f) = form_out f
text_out (List f) = fault (number_of f.cause) f.place

-- The layer of a fault by its number: 1 and 2 are of the characters, 3 and 4 of the forms, the others of the list.
abbrev pub layer_of : ℕ → Layer
layer_of q = cond (nat_le q 2) Characters (cond (nat_le q 4) InForms InList)

-- The number of a layer.
abbrev pub layer_number : Layer → ℕ
layer_number Characters = 1
layer_number InForms = 2
layer_number InList = 3
