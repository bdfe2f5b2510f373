-- What the reading of a command text answers.
use Rattle.std.specs.Prelude.{◌≡◌, ℕ, cond, List, [], ◌∷◌, Option, Ok, Err, Result, MatchResult, slice_index}
use Rattle.network.specs.Drafts.{new_draft}
use Rattle.text.specs.declared.commands.Command.{Command}
use Rattle.text.specs.declared.commands.Command.TheVariants.{Fastest as fastest, Widest as widest}
use Rattle.text.specs.declared.fault.FormFault.{FormFault}
use Rattle.text.specs.declared.words.Name.{Name}
use Rattle.text.specs.declared.words.Name.TheVariants.{Fastest, Widest}
use Rattle.text.specs.Names.{is_name}
use Rattle.text.specs.Faults.{form_out}
use Rattle.text.specs.Grammar.{Slot, Seen, Out, read, fault, answer, noted, command, command_slots}
use Rattle.text.specs.Left.{Left}
use Rattle.text.specs.Listing.{Fault, start}
use Rattle.text.specs.Reads.{pass}

-- The numbers of a command, in their order.
abbrev pub numbers : Command → List ℕ
numbers (fastest from to room) = from ∷ to ∷ room ∷ []
numbers (widest from to) = from ∷ to ∷ []

-- The word of a command.
abbrev pub verb_of : Command → Name
verb_of (fastest from to room) = Fastest
verb_of (widest from to) = Widest

-- The command that a word and its numbers make.
abbrev pub command_from : Option Name → List ℕ → Command
command_from w xs = cond (is_name Fastest w) (fastest (slice_index xs 0) (slice_index xs 1) (slice_index xs 2)) (widest (slice_index xs 0) (slice_index xs 1))

-- What a pass over a command ends with: the command, or a fault.
abbrev pub ordered : Out → Result Command Fault
ordered (read c) = Ok (command_from c.verb c.got)
ordered (fault q p) = Err (record { number = q; place = p })

-- The command that a text is, or the fault of the text.
abbrev pub commanded : List ℕ → Result Command Fault
commanded text = ordered (answer (start new_draft) command_slots text)

-- Numbers are got, one after another.
abbrev pub noted_all : Seen → List ℕ → Seen
noted_all c [] = c
noted_all c (x ∷ xs) = noted_all (noted c x) xs

-- The slots of a command were filled: its numbers were got.
pub record Ordered (front : List Slot → List Slot) (was : Left) (r : Result Command FormFault) (is : Left) : Type 0 where
  pub same : is.size ≡ was.size
  pub reads :
      MatchResult r
      (λ x. (c : Seen) (ss : List Slot) → pass c (front ss) was ≡ pass (noted_all c (numbers x)) ss is)
      (λ f. (c : Seen) (ss : List Slot) → pass c (front ss) was ≡ form_out f)

-- A command from its word on: what is got then makes it again.
pub record Spoken (was : Left) (r : Result Command FormFault) (is : Left) : Type 0 where
  pub same : is.size ≡ was.size
  pub reads :
      MatchResult r
      (λ x. (c : Seen) (ss : List Slot) → (e : Seen) × (pass c (command ∷ ss) was ≡ pass e ss is) × (command_from e.verb e.got ≡ x))
      (λ f. (c : Seen) (ss : List Slot) → pass c (command ∷ ss) was ≡ form_out f)

-- A whole command text.
abbrev pub Whole : Left → Result Command FormFault → Type 0
Whole was (Ok x) = (c : Seen) → (e : Seen) × (pass c command_slots was ≡ read e) × (command_from e.verb e.got ≡ x)
Whole was (Err f) = (c : Seen) → pass c command_slots was ≡ form_out f
