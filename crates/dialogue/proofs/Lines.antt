-- The lines of a text, one after another.
use Rattle.std.proofs.Common.{◌≡◌, ℕ, suc, ◌+◌, ◌<◌, Bool, true, false, cond, eqb, List, [], ◌∷◌, ◌++◌, length, take, drop, Ok, Err, codes, Result, sym, refl, ap, ◌∙◌, append_assoc, append-nil, arith, length-append}
use Rattle.network.specs.Drafts.{new_draft}
use Rattle.network.specs.Net.{Net}
use Rattle.network.specs.Refusals.{answered, left_by}
use Rattle.text.specs.Listing.{Fault, fault_text, reading}
use Rattle.dialogue.specs.Replies.{replied}
use Rattle.dialogue.specs.Responses.{replies, responded, response}
use Rattle.dialogue.specs.Parts.{list_part, command_part, lines_from, lines_of, first_newline, first_line, after_line}

-- the line that has begun goes on to the first newline
lines_on : (so_far bs : List ℕ) → 0 < length so_far + length bs → lines_from so_far bs ≡ (so_far ++ first_line bs) ∷ lines_of (after_line bs)
lines_on [] [] h = absurd (omega arith)
lines_on (x ∷ xs) [] h = ap (λ (l : List ℕ). l ∷ []) (sym (append-nil (x ∷ xs)))
lines_on so_far (b ∷ bs) h = go (eqb b 10) refl (lines_on (so_far ++ b ∷ []) bs (let e = length-append so_far (b ∷ []) in omega arith))
  where
    past : drop (suc (first_newline bs) + 1) (b ∷ bs) ≡ drop (first_newline bs + 1) bs
    past = let e : suc (first_newline bs) + 1 ≡ suc (first_newline bs + 1) = omega arith in ap (λ (i : ℕ). drop i (b ∷ bs)) e

    go : (v : Bool) → eqb b 10 ≡ v → lines_from (so_far ++ b ∷ []) bs ≡ ((so_far ++ b ∷ []) ++ first_line bs) ∷ lines_of (after_line bs) → cond v (so_far ∷ lines_from [] bs) (lines_from (so_far ++ b ∷ []) bs) ≡ (so_far ++ take (cond v 0 (suc (first_newline bs))) (b ∷ bs)) ∷ lines_of (drop (cond v 0 (suc (first_newline bs)) + 1) (b ∷ bs))
    go true e on = ap (λ (l : List ℕ). l ∷ lines_from [] bs) (sym (append-nil so_far))
    go false e on =
        on
        ∙ ap (λ (l : List ℕ). l ∷ lines_of (after_line bs)) (append_assoc so_far (b ∷ []) (first_line bs))
        ∙ ap (λ (r : List ℕ). (so_far ++ b ∷ first_line bs) ∷ lines_of r) (sym past)

pub lines_more : (bs : List ℕ) → 0 < length bs → lines_of bs ≡ first_line bs ∷ lines_of (after_line bs)
lines_more bs h = lines_on [] bs (omega arith)

-- the text so far with what is still to be replied, one line on
pub replies_more : (net : Net) (text line more bs all : List ℕ) → lines_of bs ≡ line ∷ lines_of more → text ++ replies net (lines_of bs) ≡ all → (text ++ (replied net line ++ codes "\n")) ++ replies net (lines_of more) ≡ all
replies_more net text line more bs all e h =
    append_assoc text (replied net line ++ codes "\n") (replies net (lines_of more))
    ∙ sym (ap (λ (ls : List (List ℕ)). text ++ replies net ls) e)
    ∙ h

-- the response where the list was read, and where it has a fault
pub responded_ok : (d is : Net) (r : Result Net Fault) (commands : List ℕ) → Ok tt ≡ answered r → is ≡ left_by d r → responded r commands ≡ replies is (lines_of commands)
responded_ok d is (Ok net) commands a e = ap (λ (n : Net). replies n (lines_of commands)) (sym e)
responded_ok d is (Err f) commands a e = absurd (grind arith)

pub responded_err : (f : Fault) (r : Result Net Fault) (commands : List ℕ) → Err f ≡ answered r → responded r commands ≡ fault_text f ++ codes "\n"
responded_err f (Ok net) commands a = absurd (grind arith)
responded_err f (Err g) commands a = let e : f ≡ g = grind arith in ap (λ (x : Fault). fault_text x ++ codes "\n") (sym e)

-- the same of the whole input
module _ (input list commands : List ℕ) (d : Net) (el : list ≡ list_part input) (ec : commands ≡ command_part input) (ed : d ≡ new_draft) where
  begins : response input ≡ responded (reading d list) commands
  begins =
      ap (λ (x : Net). responded (reading x (list_part input)) (command_part input)) (sym ed)
      ∙ ap (λ (l : List ℕ). responded (reading d l) (command_part input)) (sym el)
      ∙ ap (responded (reading d list)) (sym ec)

  pub response_ok : (is sealed : Net) → Ok tt ≡ answered (reading d list) → is ≡ left_by d (reading d list) → sealed ≡ is → response input ≡ replies sealed (lines_of commands)
  response_ok is sealed a e s = begins ∙ responded_ok d is (reading d list) commands a e ∙ ap (λ (n : Net). replies n (lines_of commands)) (sym s)

  pub response_err : (f : Fault) → Err f ≡ answered (reading d list) → response input ≡ fault_text f ++ codes "\n"
  response_err f a = begins ∙ responded_err f (reading d list) commands a
