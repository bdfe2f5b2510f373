-- The grammar of texts as slots that their tokens fill, the questions that each token must pass, and the one pass over them.
use Rattle.std.specs.Prelude.{ℕ, ◌+◌, ◌-◌, ◌*◌, Bool, true, false, cond, List, [], ◌∷◌, ◌++◌, length, Option, Some, ◌==◌, nat_le, nat_lt, slice_index}
use Rattle.network.specs.declared.line.Line.{Line as NetLine}
use Rattle.network.specs.Net.{Net, all_below}
use Rattle.text.specs.declared.token.Kind.{Kind}
use Rattle.text.specs.declared.token.Kind.TheVariants.{Word, Number, Open, Close, Newline, Bad}
use Rattle.text.specs.declared.words.Name.{Name}
use Rattle.text.specs.declared.words.Name.TheVariants.{Points, Line, End, Delay, Rate, Class, Room, Jitter, Loss, Fastest, Widest}
use Rattle.text.specs.Items.{Item, is_word, is_number, items}
use Rattle.text.specs.Names.{name_of, is_name, same_name}

-- What may stand next: a bracket or newline; the word with a name, or any word that has none; the word line or end; a command's word; a number from lo to hi;
-- the point count; an end of a line; the newline that ends a line's form; nothing.
pub data Slot : Type 0 where
  mark : Kind → Slot
  word : Option Name → Slot
  form : Slot
  command : Slot
  number : ℕ → ℕ → Slot
  points : Slot
  tip : Slot
  done : Slot
  nothing : Slot

-- What was read: the network so far, the numbers since the last form's or command's word, and the command's word, once there is one.
pub record Seen : Type 0 where
  pub net : Net
  pub got : List ℕ
  pub verb : Option Name

-- Whether a token is the word x.
abbrev pub is : Name → Item → Bool
is x t = is_name x (name_of t.bytes)

-- The number that digits write, in base ten, after v.
abbrev pub value_from : ℕ → List ℕ → ℕ
value_from v [] = v
value_from v (b ∷ bs) = value_from (v * 10 + (b - 48)) bs

abbrev pub value_of : List ℕ → ℕ
value_of bs = value_from 0 bs

-- A number for each kind, by which kinds are compared.
abbrev pub code : Kind → ℕ
code Word = 0
code Number = 1
code Open = 2
code Close = 3
code Newline = 4
code Bad = 5

-- Question 2: is the byte one that a text may have?
abbrev pub good_byte : Item → Bool
good_byte t = cond (code t.kind == code Bad) false true

-- Question 3: does the token fit the slot?
abbrev pub fits : Slot → Item → Bool
fits (mark k) t = code t.kind == code k
fits (word w) t = cond (is_word t.kind) (same_name w (name_of t.bytes)) false
fits form t = cond (is_word t.kind) (cond (is Line t) true (is End t)) false
fits command t = cond (is_word t.kind) (cond (is Fastest t) true (is Widest t)) false
fits (number lo hi) t = is_number t.kind
fits points t = is_number t.kind
fits tip t = is_number t.kind
fits done t = code t.kind == code Newline
fits nothing t = false

-- Whether a number has at most ten digits.
abbrev pub short : Item → Bool
short t = nat_le (length t.bytes) 10

-- Whether it also lies from lo to hi.
abbrev pub within : ℕ → ℕ → Item → Bool
within lo hi t = cond (short t) (cond (nat_le lo (value_of t.bytes)) (nat_le (value_of t.bytes) hi) false) false

-- Question 4: has the number at most ten digits, and is it in range, but for the ends of a line?
abbrev pub ranged : Slot → Item → Bool
ranged (mark k) t = true
ranged (word w) t = true
ranged form t = true
ranged command t = true
ranged (number lo hi) t = within lo hi t
ranged points t = within 2 64 t
ranged tip t = short t
ranged done t = true
ranged nothing t = true

-- Question 5: are the ends of lines below the point count, also those of lines already held?
abbrev pub below : Seen → Slot → Item → Bool
below c (mark k) t = true
below c (word w) t = true
below c form t = true
below c command t = true
below c (number lo hi) t = true
below c points t = all_below (value_of t.bytes) c.net.lines
below c tip t = nat_lt (value_of t.bytes) c.net.points
below c done t = true
below c nothing t = true

-- Question 6: are there at most 512 lines?
abbrev pub fewer : Seen → Slot → Item → Bool
fewer c (mark k) t = true
fewer c (word w) t = true
fewer c form t = cond (is Line t) (nat_lt (length c.net.lines) 512) true
fewer c command t = true
fewer c (number lo hi) t = true
fewer c points t = true
fewer c tip t = true
fewer c done t = true
fewer c nothing t = true

-- The question q fails, unless b.
abbrev pub unless : Bool → ℕ → List ℕ → List ℕ
unless b q qs = cond b qs (q ∷ qs)

-- The questions that a token fails at a slot, by number, the lowest first.
abbrev pub fails : Seen → Slot → Item → List ℕ
fails c s t = unless (good_byte t) 2 (unless (fits s t) 3 (unless (ranged s t) 4 (unless (below c s t) 5 (unless (fewer c s t) 6 []))))

-- A number is got.
abbrev pub noted : Seen → ℕ → Seen
noted c v = record { net = c.net; got = c.got ++ v ∷ []; verb = c.verb }

-- A form or a command begins: no number is read yet.
abbrev pub begun : Seen → Option Name → Seen
begun c w = record { net = c.net; got = []; verb = w }

-- The point count is set.
abbrev pub pointed : Seen → ℕ → Seen
pointed c n = record { net = record { points = n; lines = c.net.lines }; got = c.got; verb = c.verb }

-- The line that the eight numbers of its form make.
abbrev pub line_from : List ℕ → NetLine
line_from xs =
    record {
      from = slice_index xs 0;
      to = slice_index xs 1;
      terms = record { delay = slice_index xs 2; room = slice_index xs 5; charges = record { rate = slice_index xs 3; class = slice_index xs 4; jitter = slice_index xs 6; loss = slice_index xs 7 } };
    }

-- A network with one line more at its end.
abbrev pub with_line : Net → NetLine → Net
with_line net l = record { points = net.points; lines = net.lines ++ l ∷ [] }

-- A line is added.
abbrev pub lined : Seen → NetLine → Seen
lined c l = record { net = with_line c.net l; got = c.got; verb = c.verb }

-- What is known after a token that passed.
abbrev pub after : Seen → Slot → Item → Seen
after c (mark k) t = c
after c (word w) t = c
after c form t = begun c c.verb
after c command t = begun c (name_of t.bytes)
after c (number lo hi) t = noted c (value_of t.bytes)
after c points t = pointed c (value_of t.bytes)
after c tip t = noted c (value_of t.bytes)
after c done t = lined c (line_from c.got)
after c nothing t = c

-- An inner part, as (delay 1).
abbrev pub field : Name → ℕ → ℕ → List Slot → List Slot
field w lo hi ss = mark Open ∷ word (Some w) ∷ number lo hi ∷ mark Close ∷ ss

-- What follows the word line.
abbrev pub line_slots : List Slot → List Slot
line_slots ss =
    tip ∷ tip ∷ field Delay 0 1000000 (field Rate 0 10000 (field Class 0 7 (field Room 1 1000 (field Jitter 0 1000 (field Loss 0 1000
    (mark Close ∷ done ∷ ss))))))

-- A number of a command.
abbrev pub figure : Slot
figure = number 0 4294967295

-- What follows the words fastest and widest.
abbrev pub fastest_slots : List Slot → List Slot
fastest_slots ss = figure ∷ figure ∷ field Room 0 4294967295 (mark Close ∷ ss)

abbrev pub widest_slots : List Slot → List Slot
widest_slots ss = figure ∷ figure ∷ mark Close ∷ ss

-- What follows a command's word.
abbrev pub verb_slots : Option Name → List Slot → List Slot
verb_slots w ss = cond (is_name Fastest w) (fastest_slots ss) (widest_slots ss)

-- The slots after the one that a token filled.
abbrev pub next : Slot → Item → List Slot → List Slot
next (mark k) t ss = ss
next (word w) t ss = ss
next form t ss = cond (is Line t) (line_slots (mark Open ∷ form ∷ ss)) (mark Close ∷ mark Newline ∷ ss)
next command t ss = verb_slots (name_of t.bytes) ss
next (number lo hi) t ss = ss
next points t ss = ss
next tip t ss = ss
next done t ss = ss
next nothing t ss = ss

-- A list text: the points form, then line forms, then the end form, each on a line of its own.
abbrev pub list_slots : List Slot
list_slots = mark Open ∷ word (Some Points) ∷ points ∷ mark Close ∷ mark Newline ∷ mark Open ∷ form ∷ []

-- A command text: one form.
abbrev pub command_slots : List Slot
command_slots = mark Open ∷ command ∷ []

-- What a pass ends with: what it read, or the number and place of a fault.
pub data Out : Type 0 where
  read : Seen → Out
  fault : ℕ → ℕ → Out

-- A fault at place p by the first question that failed, or what comes after.
abbrev pub or_else : List ℕ → ℕ → Out → Out
or_else [] p o = o
or_else (q ∷ qs) p o = fault q p

-- The one pass: the first token that fails a question, and the first question that it fails; n is the text's length.
abbrev pub run : Seen → ℕ → List Slot → List Item → Out
run c n [] [] = read c
run c n (s ∷ ss) [] = fault 3 n
run c n [] (t ∷ ts) = or_else (fails c nothing t) t.place (run c n [] ts)
run c n (s ∷ ss) (t ∷ ts) = or_else (fails c s t) t.place (run (after c s t) n (next s t ss) ts)

-- What a text answers: its size is asked before all else.
abbrev pub answer : Seen → List Slot → List ℕ → Out
answer c ss text = cond (nat_le (length text) 65536) (run c (length text) ss (items 0 text)) (fault 1 65536)
