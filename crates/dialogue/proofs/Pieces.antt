-- A text is cut after its first newline: what `split_inclusive` takes off it, without its newline, is its first line.
use Rattle.std.proofs.Common.{◌≡◌, ◌≢◌, ℕ, ◌+◌, ◌-◌, ◌<◌, ◌≤◌, min, true, false, cond, eqb, List, [], ◌∷◌, ◌++◌, length, get_or, take, drop, Option, Some, None, MatchOption, unwrap_or, Bor, nat_eq, sym, refl, ap, subst, ◌∙◌, arith, ⊎_elim}
use Rattle.std.proofs.lemmas.Bool.{cases_lt, false≢true, eqb-true, eq-eqb}
use Rattle.std.proofs.lemmas.List.{drop_at, drop_min, drop_more, drop_all, get_or_past, take-append-le, get_or_append_left}
use Rattle.std.proofs.lemmas.List.Recursion.{is_position_or_len}
use Rattle.std.proofs.lemmas.List.Sums.{position_or_len_is}
use Rattle.std.proofs.Math.Seq.{take-append_seam}
use Rattle.std.specs.Cmp.Lexicographic.{pointwise, same_text, other_text}
use Rattle.std.specs.List.{IsFirstMatchOrLen}
use Rattle.dialogue.specs.Parts.{lines_of, first_newline, first_line, after_line}
use Rattle.dialogue.proofs.Lines.{lines_more}

module _ (bs piece rest : List ℕ) (i : ℕ) (filled : 0 < length bs) (cut : bs ≡ piece ++ rest) (long : length piece ≡ min (i + 1) (length bs)) (first : IsFirstMatchOrLen (λ b. eqb b 10) bs i) where
  within : i ≤ length bs
  within =
      ⊎_elim
      (λ (l : length bs < i).
      let e : get_or bs (length bs) 10 ≡ 10 = get_or_past bs (length bs) 10 (omega arith) in
      let f : eqb (get_or bs (length bs) 10) 10 ≡ false = first.0 (length bs) 10 (omega arith) l in
      absurd (false≢true (sym (subst (λ (x : ℕ). eqb x 10 ≡ false) e f))))
      (λ (l : i ≤ length bs). l)
      (cases_lt (length bs) i)

  found : first_newline bs ≡ i
  found = is_position_or_len first_newline (λ b. eqb b 10) refl (λ x xs. ap (cond (eqb x 10) 0) (omega arith)) bs ∙ position_or_len_is (λ b. eqb b 10) bs i 0 within (λ k l. first.0 k 0 (omega arith) l) (λ l. first.1 l 0)

  rest_is : rest ≡ after_line bs
  rest_is =
      let e = ap (drop (length piece)) cut ∙ drop_at piece rest (length piece) refl in
      sym e ∙ ap (λ (n : ℕ). drop n bs) long ∙ drop_min (i + 1) bs ∙ ap (λ (n : ℕ). drop (n + 1) bs) (sym found)

  -- the last byte of a piece
  last : drop (length piece - 1) piece ≡ get_or bs (length piece - 1) 0 ∷ []
  last =
      let n = length piece - 1 in
      let more = drop_more piece n 0 (omega arith) in
      let none = drop_all (n + 1) piece (omega arith) in
      let same : get_or bs n 0 ≡ get_or piece n 0 = ap (λ (xs : List ℕ). get_or xs n 0) cut ∙ get_or_append_left piece rest 0 n (omega arith) in
      cc

  -- a piece ends in a newline where the text has one
  ended : drop (length piece - 1) piece ≡ 10 ∷ [] → i < length bs
  ended e =
      ⊎_elim
      (λ (l : i < length bs). l)
      (λ (l : length bs ≤ i).
      let n : length piece - 1 ≡ length bs - 1 = omega arith in
      let is : get_or bs (length piece - 1) 0 ≡ 10 = cc last in
      let not : eqb (get_or bs (length bs - 1) 0) 10 ≡ false = first.0 (length bs - 1) 0 (omega arith) (omega arith) in
      absurd (false≢true (sym not ∙ eq-eqb _ 10 (ap (λ (k : ℕ). get_or bs k 0) (sym n) ∙ is))))
      (cases_lt i (length bs))

  unended : drop (length piece - 1) piece ≢ 10 ∷ [] → i ≡ length bs
  unended e =
      ⊎_elim
      (λ (l : i < length bs).
      let n : length piece - 1 ≡ i = omega arith in
      let is : get_or bs i 0 ≡ 10 = eqb-true _ 10 (first.1 l 0) in
      absurd (e (last ∙ ap (λ (k : ℕ). get_or bs k 0 ∷ []) n ∙ ap (λ (b : ℕ). b ∷ []) is)))
      (λ (l : length bs ≤ i). let w = within in omega arith)
      (cases_lt i (length bs))

  stripped : drop (length piece - 1) piece ≡ 10 ∷ [] → take (length piece - 1) piece ≡ first_line bs
  stripped e =
      let l = ended e in
      let n : length piece - 1 ≡ i = omega arith in
      let front : take i bs ≡ take i piece = ap (take i) cut ∙ take-append-le i piece rest (omega arith) in
      let f = found in
      cc

  unstripped : drop (length piece - 1) piece ≢ 10 ∷ [] → piece ≡ first_line bs
  unstripped e =
      let l = unended e in
      let all : take (length piece) bs ≡ piece = ap (take (length piece)) cut ∙ take-append_seam piece rest in
      let n : length piece ≡ first_newline bs = omega (arith, found) in
      cc

  -- what a suffix of one newline leaves
  line_is : (r : Option (Bor (List ℕ))) (whole : Bor (List ℕ)) → whole.now ≡ piece → MatchOption r (pointwise nat_eq (drop (length whole.now - 1) whole.now) (10 ∷ []) ≡ false) (λ x. (pointwise nat_eq (drop (length whole.now - 1) whole.now) (10 ∷ []) ≡ true) × (x.now ≡ take (length whole.now - 1) whole.now) × (length x.now + 1 ≡ length whole.now)) → (unwrap_or r whole).now ≡ first_line bs
  line_is None whole e h = e ∙ unstripped (subst (λ (xs : List ℕ). drop (length xs - 1) xs ≢ 10 ∷ []) e (other_text _ _ (sym h)))
  line_is (Some x) whole e h =
      h.1
      ∙ ap (λ (xs : List ℕ). take (length xs - 1) xs) e
      ∙ stripped (subst (λ (xs : List ℕ). drop (length xs - 1) xs ≡ 10 ∷ []) e (same_text _ _ (sym h.0)))

  pub lines_cut : (r : Option (Bor (List ℕ))) (whole : Bor (List ℕ)) → whole.now ≡ piece → MatchOption r (pointwise nat_eq (drop (length whole.now - 1) whole.now) (10 ∷ []) ≡ false) (λ x. (pointwise nat_eq (drop (length whole.now - 1) whole.now) (10 ∷ []) ≡ true) × (x.now ≡ take (length whole.now - 1) whole.now) × (length x.now + 1 ≡ length whole.now)) → lines_of bs ≡ (unwrap_or r whole).now ∷ lines_of rest
  lines_cut r whole e h = lines_more bs filled ∙ ap (λ (l : List ℕ). l ∷ lines_of (after_line bs)) (sym (line_is r whole e h)) ∙ ap (λ (l : List ℕ). (unwrap_or r whole).now ∷ lines_of l) (sym rest_is)
