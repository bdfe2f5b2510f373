-- What the reading of a list text answers.
use Rattle.std.specs.Prelude.{ℕ, List, [], ◌++◌, None, Ok, Err, codes, decimal, Result}
use Rattle.network.specs.Net.{Net}
use Rattle.text.specs.declared.fault.FormFault.TheVariants.{Chars, Form}
use Rattle.text.specs.declared.fault.TextFault.{TextFault}
use Rattle.text.specs.declared.fault.TextFault.TheVariants.{Forms, List as InList}
use Rattle.network.specs.Refusals.{number_of}
use Rattle.text.specs.Faults.{char_number, form_number, layer_number, layer_of}
use Rattle.text.specs.Grammar.{Seen, Out, read, fault, answer, list_slots}

-- A fault: the number of the question that failed, and the place of the byte at fault, from 0.
pub record Fault : Type 0 where
  pub number : ℕ
  pub place : ℕ

-- The number and place of a fault of the code.
abbrev pub fault_of : TextFault → Fault
fault_of (Forms (Chars f)) = record { number = char_number f.cause; place = f.place }
fault_of (Forms (Form f)) = record { number = form_number f.cause; place = f.place }
fault_of (InList f) = record { number = number_of f.cause; place = f.place }

-- A result with its fault as number and place.
abbrev pub faulted : {A : Type 0} → Result A TextFault → Result A Fault
faulted (Ok a) = Ok a
faulted (Err f) = Err (fault_of f)

-- Where a reading begins: the network that the draft holds, and no number read yet.
abbrev pub start : Net → Seen
start d = record { net = d; got = []; verb = None }

-- What a pass over a list ends with: a network, or a fault.
abbrev pub outcome : Out → Result Net Fault
outcome (read c) = Ok c.net
outcome (fault q p) = Err (record { number = q; place = p })

-- The draft d with what a list text says, or the fault of the text.
abbrev pub reading : Net → List ℕ → Result Net Fault
reading d text = outcome (answer (start d) list_slots text)

-- How a fault is printed: its layer, its number and its place.
abbrev pub fault_text : Fault → List ℕ
fault_text f = codes "(fault " ++ (decimal (layer_number (layer_of f.number)) ++ (codes " " ++ (decimal f.number ++ (codes " " ++ (decimal f.place ++ codes ")")))))
