-- What a part of the reader does: it fills the slots in front, and the pass goes on from there.
use Rattle.std.specs.Prelude.{◌≡◌, ℕ, ◌<◌, ◌≤◌, Bool, true, false, cond, List, [], ◌∷◌, ◌++◌, length, Some, None, Ok, Err, Option, Result, MatchResult, if◌then◌else◌, ◌≢◌}
use Rattle.network.specs.declared.line.Line.{Line as NetLine}
use Rattle.network.specs.declared.line.Terms.{Terms}
use Rattle.network.specs.declared.refusal.Refusal.{Refusal}
use Rattle.network.specs.Net.{Net}
use Rattle.text.specs.declared.fault.At.{At}
use Rattle.text.specs.declared.fault.CharCause.{CharCause}
use Rattle.text.specs.declared.fault.CharCause.TheVariants.{TooLong}
use Rattle.text.specs.declared.fault.FormFault.{FormFault}
use Rattle.text.specs.declared.fault.TextFault.{TextFault}
use Rattle.text.specs.declared.token.Kind.TheVariants.{Bad, Open, Close, Newline}
use Rattle.text.specs.declared.token.Token.{Token}
use Rattle.text.specs.declared.words.Name.{Name}
use Rattle.text.specs.declared.words.Name.TheVariants.{Points, Line, End, Delay, Rate, Class, Room, Jitter, Loss, Fastest, Widest}
use Rattle.text.specs.Items.{Item, is_number, is_word}
use Rattle.text.specs.Names.{name_of}
use Rattle.text.specs.Gives.{item}
use Rattle.text.specs.Grammar.{Slot, Seen, Out, run, read, mark, word, form, command, number, points, tip, done, nothing, short, value_of, noted, begun, lined, with_line, field, line_slots, list_slots}
use Rattle.text.specs.Faults.{form_out, text_out}
use Rattle.text.specs.Left.{Left}

-- The pass over what a reader has still to read.
abbrev pub pass : Seen → List Slot → Left → Out
pass c ss left = run c left.size ss left.items

-- A judgement with its place in the text.
abbrev pub at_place : Result (Unit {0}) Refusal → ℕ → Result (Unit {0}) (At Refusal)
at_place (Ok v) p = Ok v
at_place (Err e) p = Err (record { cause = e; place = p })

-- A token was taken.
pub record Takes (was : Left) (r : Result Token FormFault) (is : Left) : Type 0 where
  pub same : is.size ≡ was.size
  pub takes :
      MatchResult r
      (λ t. (was.items ≡ item t ∷ is.items) × (t.kind ≢ Bad))
      (λ f. (c : Seen) (s : Slot) (ss : List Slot) → pass c (s ∷ ss) was ≡ form_out f)

-- The slots `front` were filled, and what was seen changed by `sees`.
pub record Reads {V : Type 0} (front : List Slot → List Slot) (sees : Seen → V → Seen) (was : Left) (r : Result V FormFault) (is : Left) : Type 0 where
  pub same : is.size ≡ was.size
  pub reads :
      MatchResult r
      (λ v. (c : Seen) (ss : List Slot) → pass c (front ss) was ≡ pass (sees c v) ss is)
      (λ f. (c : Seen) (ss : List Slot) → pass c (front ss) was ≡ form_out f)

-- Whether a slot is for a number.
abbrev pub numeric : Slot → Bool
numeric (mark k) = false
numeric (word w) = false
numeric form = false
numeric command = false
numeric (number lo hi) = true
numeric points = true
numeric tip = true
numeric done = false
numeric nothing = false

-- A number of at most ten digits was taken: its value, and the place of its first digit.
pub record Counts (was : Left) (r : Result (ℕ × ℕ) FormFault) (is : Left) : Type 0 where
  pub same : is.size ≡ was.size
  pub counts :
      MatchResult r
      (λ v. (t : Item) × (was.items ≡ t ∷ is.items) × (is_number t.kind ≡ true) × (short t ≡ true) × (value_of t.bytes ≡ v.0) × (t.place ≡ v.1))
      (λ f. (c : Seen) (s : Slot) (ss : List Slot) → numeric s ≡ true → pass c (s ∷ ss) was ≡ form_out f)

-- The two words that a slot takes, if it takes two.
abbrev pub two_words : Slot → Option (Name × Name)
two_words (mark k) = None
two_words (word w) = None
two_words form = Some (Line, End)
two_words command = Some (Fastest, Widest)
two_words (number lo hi) = None
two_words points = None
two_words tip = None
two_words done = None
two_words nothing = None

-- One of two words was taken, for a slot that takes these two: whether it is the first, and its place.
pub record Chosen (a b : Name) (was : Left) (r : Result (Bool × ℕ) FormFault) (is : Left) : Type 0 where
  pub same : is.size ≡ was.size
  pub chosen :
      MatchResult r
      (λ v. (t : Item) × (was.items ≡ t ∷ is.items) × (is_word t.kind ≡ true) × (name_of t.bytes ≡ Some (if v.0 then a else b)) × (t.place ≡ v.1))
      (λ f. (c : Seen) (s : Slot) (ss : List Slot) → two_words s ≡ Some (a, b) → pass c (s ∷ ss) was ≡ form_out f)

-- The slots `front` were filled, and nothing is left.
pub record Ends (front : List Slot) (was : Left) (r : Result (Unit {0}) FormFault) (is : Left) : Type 0 where
  pub same : is.size ≡ was.size
  pub reads :
      MatchResult r
      (λ v. (c : Seen) → pass c front was ≡ read c)
      (λ f. (c : Seen) → pass c front was ≡ form_out f)

-- The same as `Reads` one layer up, where what was seen is known to meet `known`, and what was read leads on to the slots `back`.
pub record Leads {V : Type 0} (known : Seen → Type 0) (back : V → List Slot → List Slot) (front : List Slot → List Slot) (sees : Seen → V → Seen) (was : Left) (r : Result V TextFault) (is : Left) : Type 0 where
  pub same : is.size ≡ was.size
  pub reads :
      MatchResult r
      (λ v. (c : Seen) (ss : List Slot) → known c → pass c (front ss) was ≡ pass (sees c v) (back v ss) is)
      (λ f. (c : Seen) (ss : List Slot) → known c → pass c (front ss) was ≡ text_out f)

-- The same where the slots that follow are left as they are.
abbrev pub Lists : {V : Type 0} → (Seen → Type 0) → (List Slot → List Slot) → (Seen → V → Seen) → Left → Result V TextFault → Left → Type 0
Lists known front sees was r is = Leads known (λ v ss. ss) front sees was r is

-- What was seen has this network.
abbrev pub HasNet : Net → Seen → Type 0
HasNet net c = c.net ≡ net

-- It has this network, and a form has just begun.
abbrev pub Begins : Net → Seen → Type 0
Begins net c = (c.net ≡ net) × (c.got ≡ [])

-- What a part of the reader leaves of the draft: with what it read, or after a fault as it was.
abbrev pub left_with : {V : Type 0} → Net → (V → Net) → Result V TextFault → Net
left_with d f (Ok v) = f v
left_with d f (Err e) = d

-- What was seen of a line's form, up to its closing bracket.
abbrev pub ends_seen : Seen → ℕ × ℕ → Seen
ends_seen c v = noted (noted c v.0) v.1

-- The same after the six inner parts of a line.
abbrev pub terms_seen : Seen → Terms → Seen
terms_seen c t = noted (noted (noted (noted (noted (noted c t.delay) t.charges.rate) t.charges.class) t.room) t.charges.jitter) t.charges.loss

-- The same after a whole line's form: its eight numbers were got, and the line was added.
abbrev pub line_seen : Seen → NetLine → Seen
line_seen c l = lined (terms_seen (ends_seen c (l.from, l.to)) l.terms) l

-- The slots of the six inner parts of a line.
abbrev pub terms_slots : List Slot → List Slot
terms_slots ss = field Delay 0 1000000 (field Rate 0 10000 (field Class 0 7 (field Room 1 1000 (field Jitter 0 1000 (field Loss 0 1000 ss)))))

-- The slots of the points form.
abbrev pub points_slots : List Slot → List Slot
points_slots ss = mark Open ∷ word (Some Points) ∷ points ∷ mark Close ∷ mark Newline ∷ ss

-- What follows the word line or end, and what has been seen after it.
abbrev pub form_slots : Bool → List Slot → List Slot
form_slots b ss = cond b (line_slots (mark Open ∷ form ∷ ss)) (mark Close ∷ mark Newline ∷ ss)

abbrev pub formed : Seen → Bool → Seen
formed c b = begun c c.verb

-- The same after a whole line, or the word end.
abbrev pub turn_slots : Option NetLine → List Slot → List Slot
turn_slots None ss = mark Close ∷ mark Newline ∷ ss
turn_slots (Some l) ss = mark Open ∷ form ∷ ss

abbrev pub turn_seen : Seen → Option NetLine → Seen
turn_seen c None = formed c false
turn_seen c (Some l) = line_seen (formed c true) l

-- The draft after it.
abbrev pub turned : Net → Option NetLine → Net
turned d None = d
turned d (Some l) = with_line d l

-- The draft `is` has the lines of `was` and perhaps more.
abbrev pub Grown : Net → Net → Type 0
Grown was is = (ls : List NetLine) × (is.lines ≡ was.lines ++ ls)

-- Lines were read up to the word end: `old` and `new` are the draft before and after.
pub record Many (old new : Net) (was : Left) (r : Result (Unit {0}) TextFault) (is : Left) : Type 0 where
  pub same : is.size ≡ was.size
  pub reads :
      MatchResult r
      (λ v. (c : Seen) → c.net ≡ old → (e : Seen) × (pass c (mark Open ∷ form ∷ []) was ≡ pass e (mark Close ∷ mark Newline ∷ []) is) × (e.net ≡ new))
      (λ f. (c : Seen) → c.net ≡ old → pass c (mark Open ∷ form ∷ []) was ≡ text_out f)

-- A whole list was read.
abbrev pub Whole : Net → Net → Left → Result (Unit {0}) TextFault → Type 0
Whole old new was (Ok v) = (c : Seen) → c.net ≡ old → (e : Seen) × (pass c list_slots was ≡ read e) × (e.net ≡ new)
Whole old new was (Err f) = (c : Seen) → c.net ≡ old → pass c list_slots was ≡ text_out f

-- A text is not too long, or it is.
abbrev pub Sized : List ℕ → Result (Unit {0}) (At CharCause) → Type 0
Sized text (Ok v) = length text ≤ 65536
Sized text (Err f) = (65536 < length text) × (f.cause ≡ TooLong) × (f.place ≡ 65536)
