-- One byte on, and the scan from left to right is the definition.
use Rattle.std.proofs.Common.{◌≡◌, ℕ, ◌+◌, ◌-◌, ◌<◌, ◌≤◌, Bool, true, false, cond, List, [], ◌∷◌, ◌++◌, length, get_or, take, drop, Option, Some, None, sym, refl, ap, ◌∙◌, arith}
use Rattle.std.specs.List.{between}
use Rattle.std.proofs.lemmas.List.{drop_more, drop_all}
use Rattle.std.proofs.lemmas.List.Edits.{between_more}
use Rattle.text.specs.declared.token.Kind.{Kind}
use Rattle.text.specs.declared.token.Kind.TheVariants.{Word, Number, Open, Close, Newline, Bad}
use Rattle.text.specs.Items.{Item, class, is_word, is_number, goes_on, continues, one, scan, rest}

pub word_is : (k : Kind) → is_word k ≡ true → k ≡ Word
word_is Word e = refl
word_is Number e = cc
word_is Open e = cc
word_is Close e = cc
word_is Newline e = cc
word_is Bad e = cc

pub number_is : (k : Kind) → is_number k ≡ true → k ≡ Number
number_is Word e = cc
number_is Number e = refl
number_is Open e = cc
number_is Close e = cc
number_is Newline e = cc
number_is Bad e = cc

-- what goes on is of the same kind
pub same_run : (k j : Kind) → goes_on k j ≡ true → j ≡ k
same_run Word j e = word_is j e
same_run Number j e = number_is j e
same_run Open j e = cc
same_run Close j e = cc
same_run Newline j e = cc
same_run Bad j e = cc

pub same_kind : (k j : Option Kind) → continues k j ≡ true → j ≡ k
same_kind None j e = cc
same_kind (Some k) None e = cc
same_kind (Some k) (Some j) e = ap Some (same_run k j e)

-- one byte on
pub gone_on : (k : Option Kind) (p n : ℕ) (text : List ℕ) → p ≤ n → n < length text → continues k (class (get_or text n 0)) ≡ true → rest k p n text ≡ rest (class (get_or text n 0)) p (n + 1) text
gone_on k p n text h l e =
    let d = drop_more text n 0 l in
    let w = between_more text p n 0 h l in
    let s = same_kind k (class (get_or text n 0)) e in
    ap (λ r. scan k p (between p n text) n r) d
    ∙ ap (λ b. cond b (scan k p (between p n text ++ get_or text n 0 ∷ []) (n + 1) (drop (n + 1) text)) (one k p (between p n text) ++ scan (class (get_or text n 0)) n (get_or text n 0 ∷ []) (n + 1) (drop (n + 1) text))) e
    ∙ ap (λ v. scan k p v (n + 1) (drop (n + 1) text)) (sym w)
    ∙ ap (λ j. scan j p (between p (n + 1) text) (n + 1) (drop (n + 1) text)) (sym s)

between_one : (n : ℕ) (text : List ℕ) → n < length text → between n (n + 1) text ≡ get_or text n 0 ∷ []
between_one n text l = between_more text n n 0 (omega arith) l ∙ ap (λ i. take i (drop n text) ++ get_or text n 0 ∷ []) (the_zero n)
  where
    the_zero : (n : ℕ) → n - n ≡ 0
    the_zero n = omega arith

pub breaks : (k : Option Kind) (p n : ℕ) (text : List ℕ) → n < length text → continues k (class (get_or text n 0)) ≡ false → rest k p n text ≡ one k p (between p n text) ++ rest (class (get_or text n 0)) n (n + 1) text
breaks k p n text l e =
    let d = drop_more text n 0 l in
    ap (λ r. scan k p (between p n text) n r) d
    ∙ ap (λ b. cond b (scan k p (between p n text ++ get_or text n 0 ∷ []) (n + 1) (drop (n + 1) text)) (one k p (between p n text) ++ scan (class (get_or text n 0)) n (get_or text n 0 ∷ []) (n + 1) (drop (n + 1) text))) e
    ∙ ap (λ v. one k p (between p n text) ++ scan (class (get_or text n 0)) n v (n + 1) (drop (n + 1) text)) (sym (between_one n text l))

pub at_end : (k : Option Kind) (p n : ℕ) (text : List ℕ) → length text ≤ n → rest k p n text ≡ one k p (between p n text)
at_end k p n text h = ap (λ r. scan k p (between p n text) n r) (drop_all n text h)

-- what `step` did, as one law
pub moved : (k : Option Kind) (p n : ℕ) (text : List ℕ) (k' : Option Kind) (p' n' : ℕ) (text' : List ℕ) (r : Bool) → p ≤ n → n < length text → text' ≡ text → n' ≡ n + 1 → k' ≡ class (get_or text n 0) → r ≡ continues k (class (get_or text n 0)) → p' ≡ cond r p n → rest k p n text ≡ cond r [] (one k p (between p n text)) ++ rest k' p' n' text'
moved k p n text k' p' n' text' true h l et en ek er ep = rw (et, en, ek, ep) (gone_on k p n text h l (sym er))
moved k p n text k' p' n' text' false h l et en ek er ep = rw (et, en, ek, ep) (breaks k p n text l (sym er))

-- what a step that goes on keeps, and what one that does not gives
pub record Step (k : Option Kind) (p n : ℕ) (text : List ℕ) (k' : Option Kind) (p' n' : ℕ) (text' : List ℕ) (r : Bool) : Type 0 where
  pub begun : p ≤ n
  pub more : n < length text
  pub text_is : text' ≡ text
  pub at_is : n' ≡ n + 1
  pub state_is : k' ≡ class (get_or text n 0)
  pub goes_is : r ≡ continues k (class (get_or text n 0))
  pub from_is : p' ≡ cond r p n

pub law : {k : Option Kind} {p n : ℕ} {text : List ℕ} {k' : Option Kind} {p' n' : ℕ} {text' : List ℕ} {r : Bool} → Step k p n text k' p' n' text' r → rest k p n text ≡ cond r [] (one k p (between p n text)) ++ rest k' p' n' text'
law s = moved _ _ _ _ _ _ _ _ _ s.begun s.more s.text_is s.at_is s.state_is s.goes_is s.from_is

pub stays : {k : Option Kind} {p n : ℕ} {text : List ℕ} {k' : Option Kind} {p' n' : ℕ} {text' : List ℕ} {r : Bool} → Step k p n text k' p' n' text' r → r ≡ true → rest k p n text ≡ rest k' p' n' text'
stays {k} {p} {n} {text} {k'} {p'} {n'} {text'} s e = law s ∙ ap (λ b. cond b [] (one k p (between p n text)) ++ rest k' p' n' text') e

pub parts : {k : Option Kind} {p n : ℕ} {text : List ℕ} {k' : Option Kind} {p' n' : ℕ} {text' : List ℕ} {r : Bool} → Step k p n text k' p' n' text' r → r ≡ false → (d : List Item) → d ≡ one k p (between p n text) → rest k p n text ≡ d ++ rest k' p' n' text'
parts {k} {p} {n} {text} {k'} {p'} {n'} {text'} s e d f = law s ∙ ap (λ b. cond b [] (one k p (between p n text)) ++ rest k' p' n' text') e ∙ ap (λ x. x ++ rest k' p' n' text') (sym f)

-- past the end nothing is left
pub ended : (n : ℕ) (text : List ℕ) → length text ≤ n → rest None n n text ≡ []
ended n text h = at_end None n n text h
