-- From the pass over a lexer's tokens to what a text answers.
use Rattle.std.proofs.Common.{◌≡◌, ℕ, ◌<◌, ◌≤◌, cond, List, length, take, is_err, Ok, Err, Result, sym, refl, ap, ◌∙◌, subst, le-leb}
use borrow.Author.Tests.{lt-leb}
use Rattle.std.proofs.lemmas.List.{take_at}
use Rattle.network.specs.Net.{Net}
use Rattle.network.specs.Refusals.{answered, left_by}
use Rattle.text.specs.declared.fault.CharCause.{CharCause}
use Rattle.text.specs.declared.fault.CharCause.TheVariants.{TooLong}
use Rattle.text.specs.declared.fault.At.{At}
use Rattle.text.specs.declared.fault.FormFault.TheVariants.{Chars, Form}
use Rattle.text.specs.declared.fault.TextFault.{TextFault}
use Rattle.text.specs.declared.fault.TextFault.TheVariants.{Forms, List as InList}
use Rattle.text.specs.Items.{items}
use Rattle.text.specs.Left.{left_of}
use Rattle.text.specs.Grammar.{Slot, Seen, Out, read, fault, run, answer, list_slots}
use Rattle.text.specs.Faults.{char_number, text_out}
use Rattle.text.specs.Listing.{Fault, fault_of, faulted, start, outcome, reading}
use Rattle.text.specs.Reads.{pass, Grown, Whole}
use Rattle.text.specs.Rule.{Decides, Earliest, text_faults}
use Rattle.text.proofs.Order.{Settles, settles}

-- a reader at the start of a text that is not too long passes over what the text answers
pub from_start : (c : Seen) (ss : List Slot) (text : List ℕ) → length text ≤ 65536 → answer c ss text ≡ pass c ss (left_of text)
from_start c ss text h = ap (λ b. cond b (pass c ss (left_of text)) (fault 1 65536)) (le-leb (length text) 65536 h)

-- a text that is too long
pub too_long : (c : Seen) (ss : List Slot) (text : List ℕ) → 65536 < length text → answer c ss text ≡ fault 1 65536
too_long c ss text h = ap (λ b. cond b (run c (length text) ss (items 0 text)) (fault 1 65536)) (lt-leb (length text) 65536 h)

out_fault : (f : TextFault) → outcome (text_out f) ≡ Err (fault_of f)
out_fault (Forms (Chars f)) = refl
out_fault (Forms (Form f)) = refl
out_fault (InList f) = refl

pub read_fault : (d : Net) (text : List ℕ) (f : TextFault) → answer (start d) list_slots text ≡ text_out f → reading d text ≡ Err (fault_of f)
read_fault d text f e = ap outcome e ∙ out_fault f

pub read_net : (d is : Net) (text : List ℕ) (c : Seen) → answer (start d) list_slots text ≡ read c → c.net ≡ is → reading d text ≡ Ok is
read_net d is text c e n = ap outcome e ∙ ap (λ (x : Net). let r : Result Net Fault = Ok x in r) n

-- the first of all faults decides
settled : (o : Out) (fs : List Fault) → Settles o fs → Decides (answered (outcome o)) fs
settled (read c) fs s = s
settled (fault q p) fs s = s

pub earliest : (d : Net) (text : List ℕ) (r : Result (Unit {0}) TextFault) → faulted r ≡ answered (reading d text) → Earliest (start d) list_slots text (faulted r)
earliest d text r e h rec = subst (λ (x : Result (Unit {0}) Fault). Decides x (text_faults rec (start d) list_slots text)) (sym e) (settled (answer (start d) list_slots text) (text_faults rec (start d) list_slots text) (settles rec (start d) list_slots text h))

-- the lines held before are the first of a draft that has grown
pub grown_take : (was is : Net) → Grown was is → take (length was.lines) is.lines ≡ was.lines
grown_take was is g = ap (λ ls. take (length was.lines) ls) g.1 ∙ take_at was.lines g.0 _ refl

-- what the list reader did, as what the text answers
pub told_ok : (d is : Net) (text : List ℕ) (v : Unit {0}) → length text ≤ 65536 → Whole d is (left_of text) (Ok v) → reading d text ≡ Ok is
told_ok d is text v h w = let q = w (start d) refl in read_net d is text q.0 (from_start (start d) list_slots text h ∙ q.1) q.2

pub told_err : (d is : Net) (text : List ℕ) (f : TextFault) → length text ≤ 65536 → Whole d is (left_of text) (Err f) → reading d text ≡ Err (fault_of f)
told_err d is text f h w = read_fault d text f (from_start (start d) list_slots text h ∙ w (start d) refl)

-- the same of either, where `left` is what the draft holds at the end: what it held where there was a fault, else what was read
pub told : (d is left : Net) (text : List ℕ) (r : Result (Unit {0}) TextFault) → length text ≤ 65536 → Whole d is (left_of text) r → left ≡ cond (is_err r) d is → (faulted r ≡ answered (reading d text)) × (left ≡ left_by d (reading d text))
told d is left text (Ok v) h w k = let q = told_ok d is text v h w in (sym (ap answered q), k ∙ sym (ap (left_by d) q))
told d is left text (Err f) h w k = let q = told_err d is text f h w in (sym (ap answered q), k ∙ sym (ap (left_by d) q))

-- a text that is too long is answered, and the draft is left
pub told_long : (d : Net) (text : List ℕ) (f : At CharCause) (r : Result (Unit {0}) TextFault) → r ≡ Err (Forms (Chars f)) → 65536 < length text → f.cause ≡ TooLong → f.place ≡ 65536 → (faulted r ≡ answered (reading d text)) × (d ≡ left_by d (reading d text))
told_long d text f r e h c p =
    let q : reading d text ≡ Err (record { number = 1; place = 65536 }) = ap outcome (too_long (start d) list_slots text h) in
    let faults : Fault → Result (Unit {0}) Fault = λ x. Err x in
    (ap faulted e ∙ ap (λ (x : CharCause). faults (record { number = char_number x; place = f.place })) c ∙ ap (λ (x : ℕ). faults (record { number = 1; place = x })) p ∙ sym (ap answered q), sym (ap (left_by d) q))
