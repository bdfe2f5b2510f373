-- What a text's bytes are cut into: brackets, newlines, longest runs of letters or of digits, and bad bytes, each with its place.
use Rattle.std.specs.Prelude.{ℕ, ◌+◌, ◌<◌, ◌≤◌, Bool, true, false, cond, List, [], ◌∷◌, ◌++◌, drop, Option, Some, None, ◌==◌, nat_le}
use Rattle.std.specs.List.{between}
use Rattle.text.specs.declared.token.Kind.{Kind}
use Rattle.text.specs.declared.token.Kind.TheVariants.{Word, Number, Open, Close, Newline, Bad}

-- A token, or a bad byte: its kind, the place of its first byte from 0, and its bytes.
pub record Item : Type 0 where
  pub kind : Kind
  pub place : ℕ
  pub bytes : List ℕ

-- Small letters and digits, by their codes.
abbrev pub letter : ℕ → Bool
letter b = cond (nat_le 97 b) (nat_le b 122) false

abbrev pub digit : ℕ → Bool
digit b = cond (nat_le 48 b) (nat_le b 57) false

-- The kind of token that a byte is or begins: a word, a number, a round bracket, a newline; none for a space; else a bad byte.
abbrev pub class : ℕ → Option Kind
class b = cond (letter b) (Some Word) (cond (digit b) (Some Number) (cond (b == 40) (Some Open) (cond (b == 41) (Some Close) (cond (b == 10) (Some Newline) (cond (b == 32) None (Some Bad))))))

-- Whether a kind is that of words, of numbers.
abbrev pub is_word : Kind → Bool
is_word Word = true
is_word Number = false
is_word Open = false
is_word Close = false
is_word Newline = false
is_word Bad = false

abbrev pub is_number : Kind → Bool
is_number Word = false
is_number Number = true
is_number Open = false
is_number Close = false
is_number Newline = false
is_number Bad = false

-- Whether a token of the first kind goes on with a byte of the second: words with letters, numbers with digits.
abbrev pub goes_on : Kind → Kind → Bool
goes_on Word k = is_word k
goes_on Number k = is_number k
goes_on Open k = false
goes_on Close k = false
goes_on Newline k = false
goes_on Bad k = false

-- The same where the first or the second may be a space, with which nothing goes on.
abbrev pub continues : Option Kind → Option Kind → Bool
continues None j = false
continues (Some k) None = false
continues (Some k) (Some j) = goes_on k j

-- The item of kind k that the bytes w make at place p; a space makes none.
abbrev pub one : Option Kind → ℕ → List ℕ → List Item
one None p w = []
one (Some k) p w = record { kind = k; place = p; bytes = w } ∷ []

-- The bytes w, of kind k at place p, before items that begin at n: joined to the first of them if that goes on where w ends.
abbrev pub before : Option Kind → ℕ → List ℕ → ℕ → List Item → List Item
before k p w n [] = one k p w
before k p w n (t ∷ ts) = cond (cond (continues k (Some t.kind)) (t.place == n) false) (one k p (w ++ t.bytes) ++ ts) (one k p w ++ t ∷ ts)

-- The items of bytes that begin at place n, from the right.
abbrev pub items : ℕ → List ℕ → List Item
items n [] = []
items n (b ∷ bs) = before (class b) n (b ∷ []) (n + 1) (items (n + 1) bs)

-- The same from left to right, where the run w of kind k at place p has not ended yet.
abbrev pub scan : Option Kind → ℕ → List ℕ → ℕ → List ℕ → List Item
scan k p w n [] = one k p w
scan k p w n (b ∷ bs) = cond (continues k (class b)) (scan k p (w ++ b ∷ []) (n + 1) bs) (one k p w ++ scan (class b) n (b ∷ []) (n + 1) bs)

-- What a lexer at place n, in a run of kind k that began at p, has still to give of the text.
abbrev pub rest : Option Kind → ℕ → ℕ → List ℕ → List Item
rest k p n text = scan k p (between p n text) n (drop n text)

-- The places of items rise from n on, and stay below top.
abbrev pub Rising : ℕ → ℕ → List Item → Type 0
Rising n top [] = n ≤ top
Rising n top (t ∷ ts) = ((n ≤ t.place) × (t.place < top)) × Rising (t.place + 1) top ts
