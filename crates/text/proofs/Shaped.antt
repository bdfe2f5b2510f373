-- A text that is read is a list, written out.
use Rattle.std.proofs.Common.{◌≡◌, ℕ, zero, suc, ◌<◌, ◌≤◌, Bool, true, false, cond, eqb, leb, List, [], ◌∷◌, ◌++◌, map, length, get_or, is_ok, Option, Some, None, Ok, Err, Result, sym, refl, ap, ◌∙◌, subst, append_assoc, append-nil, arith}
use Rattle.std.proofs.lemmas.List.{length-append, length-map}
use Rattle.std.proofs.lemmas.Bool.{eqb-true, both_ways}
use Rattle.network.specs.declared.line.Line.{Line as NetLine}
use Rattle.network.specs.Net.{Net}
use Rattle.network.specs.Refusals.{answered, left_by}
use Rattle.text.specs.declared.fault.TextFault.{TextFault}
use Rattle.text.specs.declared.token.Kind.{Kind}
use Rattle.text.specs.declared.token.Kind.TheVariants.{Word, Number, Open, Close, Newline, Bad}
use Rattle.text.specs.declared.words.Name.{Name}
use Rattle.text.specs.declared.words.Name.TheVariants.{Points, Line, End, Delay, Rate, Class, Room, Jitter, Loss, Fastest, Widest}
use Rattle.text.specs.Names.{name_of, ordinal, is_name}
use Rattle.text.specs.Items.{Item, is_word, is_number, items}
use Rattle.text.specs.Grammar.{Slot, Seen, Out, read, fault, mark, word, form, number, points, tip, done, nothing, code, is, value_of, good_byte, fits, unless, fails, noted, begun, pointed, lined, line_from, after, field, line_slots, next, list_slots, or_else, run, answer}
use Rattle.text.specs.Listing.{Fault, faulted, start, outcome, reading}
use Rattle.text.specs.Shapes.{Shape, a_mark, a_word, a_number, shaped, shape_of, part_shapes, figures_shapes, line_shapes, lines_shapes, list_shapes, Listed}
use Rattle.text.proofs.Cuts.{both_true}
use Rattle.text.proofs.Scans.{word_is, number_is}

-- the kind of a number
kind_at : ℕ → Kind
kind_at n = get_or (Word ∷ Number ∷ Open ∷ Close ∷ Newline ∷ Bad ∷ []) n Bad

-- it is the one that the number is of
kind_back : (k : Kind) → kind_at (code k) ≡ k
unfolding kind_at
kind_back Word = refl
kind_back Number = refl
kind_back Open = refl
kind_back Close = refl
kind_back Newline = refl
kind_back Bad = refl

-- kinds are told apart by their numbers
code_is : (j k : Kind) → eqb (code j) (code k) ≡ true → j ≡ k
code_is j k e = sym (kind_back j) ∙ ap kind_at (eqb-true (code j) (code k) e) ∙ kind_back k

-- the name of a number
name_at : ℕ → Name
name_at n = get_or (Points ∷ Line ∷ End ∷ Delay ∷ Rate ∷ Class ∷ Room ∷ Jitter ∷ Loss ∷ Fastest ∷ Widest ∷ []) n Points

-- it is the one that the number is of
name_back : (x : Name) → name_at (ordinal x) ≡ x
unfolding name_at
name_back Points = refl
name_back Line = refl
name_back End = refl
name_back Delay = refl
name_back Rate = refl
name_back Class = refl
name_back Room = refl
name_back Jitter = refl
name_back Loss = refl
name_back Fastest = refl
name_back Widest = refl

-- names are told apart by their numbers
ordinal_is : (x y : Name) → eqb (ordinal x) (ordinal y) ≡ true → x ≡ y
ordinal_is x y e = sym (name_back x) ∙ ap name_at (eqb-true (ordinal x) (ordinal y) e) ∙ name_back y

-- what a word is called that is the word x
named_is : (x : Name) (o : Option Name) → is_name x o ≡ true → o ≡ Some x
named_is x None e = cc
named_is x (Some y) e = ap Some (ordinal_is y x e)

-- a fault is no answer
no_read : (q p : ℕ) (e : Seen) → fault q p ≡ read e → ⊥
no_read q p e h = cc

-- a token that fails no question fits
fit_from : (a b : Bool) (qs : List ℕ) → unless a 2 (unless b 3 qs) ≡ [] → b ≡ true
fit_from true true qs e = refl
fit_from true false qs e = cc
fit_from false b qs e = cc

-- a pass that reads on past a token found no fault at it
passed : (qs : List ℕ) (p : ℕ) (o : Out) (e : Seen) → or_else qs p o ≡ read e → (qs ≡ []) × (o ≡ read e)
passed [] p o e h = (refl, h)
passed (q ∷ qs) p o e h = absurd (no_read q p e h)

-- a token at the first slot
peel : {G : Type 0} (c : Seen) (n : ℕ) (s : Slot) (ss : List Slot) (ts : List Item) (e : Seen) → run c n (s ∷ ss) ts ≡ read e → ((t : Item) (us : List Item) → map shape_of ts ≡ shape_of t ∷ map shape_of us → fits s t ≡ true → run (after c s t) n (next s t ss) us ≡ read e → G) → G
peel c n s ss [] e h g = absurd (no_read 3 n e h)
peel c n s ss (t ∷ ts) e h g = let p = passed (fails c s t) t.place (run (after c s t) n (next s t ss) ts) e h in g t ts refl (fit_from (good_byte t) (fits s t) _ p.0) p.1

-- no slot is left, and no token
ended : (c : Seen) (n : ℕ) (ts : List Item) (e : Seen) → run c n [] ts ≡ read e → (map shape_of ts ≡ []) × (c ≡ e)
ended c n [] e h = (refl, cc)
ended c n (t ∷ ts) e h = let p = passed (fails c nothing t) t.place (run c n [] ts) e h in absurd (both_ways false refl (fit_from (good_byte t) false _ p.0))

-- the shape of a token that fits a bracket or newline
mark_shape : (k : Kind) (t : Item) (s : Shape) → ((w : List ℕ) → shaped k w ≡ s) → eqb (code t.kind) (code k) ≡ true → shape_of t ≡ s
mark_shape k t s f e = ap (λ (j : Kind). shaped j t.bytes) (code_is t.kind k e) ∙ f t.bytes

-- the same for a word
word_shape : (x : Name) (t : Item) → is_word t.kind ≡ true → is x t ≡ true → shape_of t ≡ a_word (Some x)
word_shape x t k e = ap (λ (j : Kind). shaped j t.bytes) (word_is t.kind k) ∙ ap a_word (named_is x (name_of t.bytes) e)

-- the same for a number
number_shape : (t : Item) → is_number t.kind ≡ true → shape_of t ≡ a_number (value_of t.bytes)
number_shape t k = ap (λ (j : Kind). shaped j t.bytes) (number_is t.kind k)

-- the first of some shapes, by another name
headed : (s u : Shape) (xs ys : List Shape) → xs ≡ s ∷ ys → s ≡ u → xs ≡ u ∷ ys
headed s u xs ys p q = p ∙ ap (λ (x : Shape). x ∷ ys) q

-- each slot in turn: what the token at it is, and the pass after it; here a bracket or newline
marked : {G : Type 0} (k : Kind) (s : Shape) (f : (w : List ℕ) → shaped k w ≡ s) (c : Seen) (n : ℕ) (ss : List Slot) (ts : List Item) (e : Seen) → run c n (mark k ∷ ss) ts ≡ read e → ((us : List Item) → map shape_of ts ≡ s ∷ map shape_of us → run c n ss us ≡ read e → G) → G
marked k s f c n ss ts e h g = peel c n (mark k) ss ts e h (λ t us m a o. g us (headed (shape_of t) s _ _ m (mark_shape k t s f a)) o)

-- a word
worded : {G : Type 0} (w : Name) (c : Seen) (n : ℕ) (ss : List Slot) (ts : List Item) (e : Seen) → run c n (word (Some w) ∷ ss) ts ≡ read e → ((us : List Item) → map shape_of ts ≡ a_word (Some w) ∷ map shape_of us → run c n ss us ≡ read e → G) → G
worded w c n ss ts e h g = peel c n (word (Some w)) ss ts e h (λ t us m a o. let b = both_true (is_word t.kind) (is w t) a in g us (headed (shape_of t) (a_word (Some w)) _ _ m (word_shape w t b.0 b.1)) o)

-- a number in a range
numbered : {G : Type 0} (lo hi : ℕ) (c : Seen) (n : ℕ) (ss : List Slot) (ts : List Item) (e : Seen) → run c n (number lo hi ∷ ss) ts ≡ read e → ((v : ℕ) (us : List Item) → map shape_of ts ≡ a_number v ∷ map shape_of us → run (noted c v) n ss us ≡ read e → G) → G
numbered lo hi c n ss ts e h g = peel c n (number lo hi) ss ts e h (λ t us m a o. g (value_of t.bytes) us (headed (shape_of t) (a_number (value_of t.bytes)) _ _ m (number_shape t a)) o)

-- an end of a line
tipped : {G : Type 0} (c : Seen) (n : ℕ) (ss : List Slot) (ts : List Item) (e : Seen) → run c n (tip ∷ ss) ts ≡ read e → ((v : ℕ) (us : List Item) → map shape_of ts ≡ a_number v ∷ map shape_of us → run (noted c v) n ss us ≡ read e → G) → G
tipped c n ss ts e h g = peel c n tip ss ts e h (λ t us m a o. g (value_of t.bytes) us (headed (shape_of t) (a_number (value_of t.bytes)) _ _ m (number_shape t a)) o)

-- the point count
counted : {G : Type 0} (c : Seen) (n : ℕ) (ss : List Slot) (ts : List Item) (e : Seen) → run c n (points ∷ ss) ts ≡ read e → ((v : ℕ) (us : List Item) → map shape_of ts ≡ a_number v ∷ map shape_of us → run (pointed c v) n ss us ≡ read e → G) → G
counted c n ss ts e h g = peel c n points ss ts e h (λ t us m a o. g (value_of t.bytes) us (headed (shape_of t) (a_number (value_of t.bytes)) _ _ m (number_shape t a)) o)

-- the newline that ends a line's form
closed : {G : Type 0} (c : Seen) (n : ℕ) (ss : List Slot) (ts : List Item) (e : Seen) → run c n (done ∷ ss) ts ≡ read e → ((us : List Item) → map shape_of ts ≡ a_mark Newline ∷ map shape_of us → run (lined c (line_from c.got)) n ss us ≡ read e → G) → G
closed c n ss ts e h g = peel c n done ss ts e h (λ t us m a o. g us (headed (shape_of t) (a_mark Newline) _ _ m (mark_shape Newline t (a_mark Newline) (λ w. refl) a)) o)

-- an inner part
parted : {G : Type 0} (w : Name) (lo hi : ℕ) (c : Seen) (n : ℕ) (ss : List Slot) (ts : List Item) (e : Seen) → run c n (field w lo hi ss) ts ≡ read e → ((v : ℕ) (us : List Item) → map shape_of ts ≡ part_shapes w v ++ map shape_of us → run (noted c v) n ss us ≡ read e → G) → G
parted w lo hi c n ss ts e h g =
    marked Open (a_mark Open) (λ _. refl) c n (word (Some w) ∷ number lo hi ∷ mark Close ∷ ss) ts e h (λ us₁ m₁ h₁.
    worded w c n (number lo hi ∷ mark Close ∷ ss) us₁ e h₁ (λ us₂ m₂ h₂.
    numbered lo hi c n (mark Close ∷ ss) us₂ e h₂ (λ v us₃ m₃ h₃.
    marked Close (a_mark Close) (λ _. refl) (noted c v) n ss us₃ e h₃ (λ us₄ m₄ h₄.
    g v us₄ (m₁ ∙ ap (λ xs. a_mark Open ∷ xs) (m₂ ∙ ap (λ xs. a_word (Some w) ∷ xs) (m₃ ∙ ap (λ xs. a_number v ∷ xs) m₄))) h₄))))

-- the word line or end
formed : {G : Type 0} (c : Seen) (n : ℕ) (ts : List Item) (e : Seen) → run c n (form ∷ []) ts ≡ read e → ((us : List Item) → map shape_of ts ≡ a_word (Some Line) ∷ map shape_of us → run (begun c c.verb) n (line_slots (mark Open ∷ form ∷ [])) us ≡ read e → G) → ((us : List Item) → map shape_of ts ≡ a_word (Some End) ∷ map shape_of us → run (begun c c.verb) n (mark Close ∷ mark Newline ∷ []) us ≡ read e → G) → G
formed {G} c n ts e h g k =
    peel c n form [] ts e h (λ t us m a o.
    let b = both_true (is_word t.kind) (cond (is Line t) true (is End t)) a in
    either t us (is Line t) refl m b.0 b.1 o)
  where
    either : (t : Item) (us : List Item) (v : Bool) → is Line t ≡ v → map shape_of ts ≡ shape_of t ∷ map shape_of us → is_word t.kind ≡ true → cond v true (is End t) ≡ true → run (begun c c.verb) n (cond v (line_slots (mark Open ∷ form ∷ [])) (mark Close ∷ mark Newline ∷ [])) us ≡ read e → G
    either t us true l m a b o = g us (headed (shape_of t) (a_word (Some Line)) _ _ m (word_shape Line t a l)) o
    either t us false l m a b o = k us (headed (shape_of t) (a_word (Some End)) _ _ m (word_shape End t a b)) o

-- a line from its ends on
figured : {G : Type 0} (c : Seen) (n : ℕ) (ss : List Slot) (ts : List Item) (e : Seen) → run (begun c c.verb) n (line_slots ss) ts ≡ read e → ((l : NetLine) (d : Seen) (us : List Item) → map shape_of ts ≡ figures_shapes l ++ map shape_of us → d.net.points ≡ c.net.points → d.net.lines ≡ c.net.lines ++ l ∷ [] → run d n ss us ≡ read e → G) → G
figured c n ss ts e h g =
    tipped _ n _ ts e h (λ v₁ us₁ m₁ h₁.
    tipped _ n _ us₁ e h₁ (λ v₂ us₂ m₂ h₂.
    parted Delay 0 1000000 _ n _ us₂ e h₂ (λ v₃ us₃ m₃ h₃.
    parted Rate 0 10000 _ n _ us₃ e h₃ (λ v₄ us₄ m₄ h₄.
    parted Class 0 7 _ n _ us₄ e h₄ (λ v₅ us₅ m₅ h₅.
    parted Room 1 1000 _ n _ us₅ e h₅ (λ v₆ us₆ m₆ h₆.
    parted Jitter 0 1000 _ n _ us₆ e h₆ (λ v₇ us₇ m₇ h₇.
    parted Loss 0 1000 _ n _ us₇ e h₇ (λ v₈ us₈ m₈ h₈.
    marked Close (a_mark Close) (λ _. refl) _ n _ us₈ e h₈ (λ us₉ m₉ h₉.
    closed _ n ss us₉ e h₉ (λ us m' h'.
    g
    (record { from = v₁; to = v₂; terms = record { delay = v₃; room = v₆; charges = record { rate = v₄; class = v₅; jitter = v₇; loss = v₈ } } })
    _ us
    (m₁
    ∙ ap (λ xs. a_number v₁ ∷ xs) (m₂
    ∙ ap (λ xs. a_number v₂ ∷ xs) (m₃
    ∙ ap (λ xs. part_shapes Delay v₃ ++ xs) (m₄
    ∙ ap (λ xs. part_shapes Rate v₄ ++ xs) (m₅
    ∙ ap (λ xs. part_shapes Class v₅ ++ xs) (m₆
    ∙ ap (λ xs. part_shapes Room v₆ ++ xs) (m₇
    ∙ ap (λ xs. part_shapes Jitter v₇ ++ xs) (m₈
    ∙ ap (λ xs. part_shapes Loss v₈ ++ xs) (m₉
    ∙ ap (λ xs. a_mark Close ∷ xs) m')))))))))
    refl refl h'))))))))))

-- fewer tokens are left after a line
fewer_left : (m : ℕ) (s : List Shape) (ts us : List Item) → 0 < length s → length ts ≤ suc m → map shape_of ts ≡ s ++ map shape_of us → length us ≤ m
fewer_left m s ts us p h e = omega (arith, length-map ts shape_of, length-map us shape_of, simp length-append at (ap length e))

-- what a pass over lines says
abbrev Lined : Seen → List Item → Seen → Type 0
Lined c ts e = (ls : List NetLine) × (map shape_of ts ≡ lines_shapes ls) × (e.net.points ≡ c.net.points) × (e.net.lines ≡ c.net.lines ++ ls)

-- lines up to the word end, by the number of tokens that are left
lines_read : (m : ℕ) (c : Seen) (n : ℕ) (ts : List Item) (e : Seen) → length ts ≤ m → run c n (mark Open ∷ form ∷ []) ts ≡ read e → Lined c ts e
lines_read zero c n [] e l h = absurd (no_read 3 n e h)
lines_read zero c n (t ∷ ts) e l h = absurd (omega arith)
lines_read (suc m) c n ts e l h =
    marked Open (a_mark Open) (λ _. refl) c n (form ∷ []) ts e h (λ us₁ m₁ h₁.
    formed c n us₁ e h₁
    (λ us₂ m₂ h₂.
    figured c n (mark Open ∷ form ∷ []) us₂ e h₂ (λ x d us m₃ p q h₃.
    let all : map shape_of ts ≡ line_shapes x ++ map shape_of us = m₁ ∙ ap (λ xs. a_mark Open ∷ xs) (m₂ ∙ ap (λ xs. a_word (Some Line) ∷ xs) m₃) in
    more x d us all p q (lines_read m d n us e (fewer_left m (line_shapes x) ts us (omega arith) l all) h₃)))
    (λ us₂ m₂ h₂.
    marked Close (a_mark Close) (λ _. refl) (begun c c.verb) n (mark Newline ∷ []) us₂ e h₂ (λ us₃ m₃ h₃.
    marked Newline (a_mark Newline) (λ _. refl) (begun c c.verb) n [] us₃ e h₃ (λ us₄ m₄ h₄.
    let z = ended (begun c c.verb) n us₄ e h₄ in (
      [],
      m₁ ∙ ap (λ xs. a_mark Open ∷ xs) (m₂ ∙ ap (λ xs. a_word (Some End) ∷ xs) (m₃ ∙ ap (λ xs. a_mark Close ∷ xs) (m₄ ∙ ap (λ xs. a_mark Newline ∷ xs) z.0))),
      sym (ap (λ (x : Seen). x.net.points) z.1),
      sym (ap (λ (x : Seen). x.net.lines) z.1) ∙ sym (append-nil c.net.lines),
    )))))
  where
    more : (x : NetLine) (d : Seen) (us : List Item) → map shape_of ts ≡ line_shapes x ++ map shape_of us → d.net.points ≡ c.net.points → d.net.lines ≡ c.net.lines ++ x ∷ [] → Lined d us e → Lined c ts e
    more x d us all p q r = (x ∷ r.0, all ∙ ap (λ xs. line_shapes x ++ xs) r.1, r.2 ∙ p, r.3 ∙ ap (λ ls. ls ++ r.0) q ∙ append_assoc c.net.lines (x ∷ []) r.0)

-- a whole list
list_read : (d : Net) (n : ℕ) (ts : List Item) (e : Seen) → run (start d) n list_slots ts ≡ read e → (ls : List NetLine) × (map shape_of ts ≡ list_shapes e.net.points ls) × (e.net.lines ≡ d.lines ++ ls)
list_read d n ts e h =
    marked Open (a_mark Open) (λ _. refl) (start d) n _ ts e h (λ us₁ m₁ h₁.
    worded Points (start d) n _ us₁ e h₁ (λ us₂ m₂ h₂.
    counted (start d) n _ us₂ e h₂ (λ v us₃ m₃ h₃.
    marked Close (a_mark Close) (λ _. refl) (pointed (start d) v) n _ us₃ e h₃ (λ us₄ m₄ h₄.
    marked Newline (a_mark Newline) (λ _. refl) (pointed (start d) v) n _ us₄ e h₄ (λ us₅ m₅ h₅.
    all v us₅ (m₁ ∙ ap (λ xs. a_mark Open ∷ xs) (m₂ ∙ ap (λ xs. a_word (Some Points) ∷ xs) (m₃ ∙ ap (λ xs. a_number v ∷ xs) (m₄ ∙ ap (λ xs. a_mark Close ∷ xs) m₅)))) (lines_read (length us₅) (pointed (start d) v) n us₅ e (omega arith) h₅))))))
  where
    all : (v : ℕ) (us : List Item) → map shape_of ts ≡ a_mark Open ∷ a_word (Some Points) ∷ a_number v ∷ a_mark Close ∷ a_mark Newline ∷ map shape_of us → Lined (pointed (start d) v) us e → (ls : List NetLine) × (map shape_of ts ≡ list_shapes e.net.points ls) × (e.net.lines ≡ d.lines ++ ls)
    all v us m r = (r.0, m ∙ ap (λ xs. a_mark Open ∷ a_word (Some Points) ∷ a_number v ∷ a_mark Close ∷ a_mark Newline ∷ xs) r.1 ∙ ap (λ k. list_shapes k r.0) (sym r.2), r.3)

-- what a pass that ends with a network read
from_out : (o : Out) (net : Net) → outcome o ≡ Ok net → (e : Seen) × (o ≡ read e) × (e.net ≡ net)
from_out (read c) net h = (c, refl, cc)
from_out (fault q p) net h = cc

-- a text that is not too long
from_size : (b : Bool) (o : Out) (e : Seen) → cond b o (fault 1 65536) ≡ read e → o ≡ read e
from_size true o e h = h
from_size false o e h = absurd (no_read 1 65536 e h)

-- a text that is read is a list
text_read : (d net : Net) (text : List ℕ) → reading d text ≡ Ok net → Listed d text net
text_read d net text h =
    let a = from_out (answer (start d) list_slots text) net h in
    subst (Listed d text) a.2 (list_read d (length text) (items 0 text) a.0 (from_size (leb (length text) 65536) _ a.0 a.1))

-- what a reading that goes through leaves
pub listed : (d left : Net) (text : List ℕ) (r : Result (Unit {0}) TextFault) → faulted r ≡ answered (reading d text) → left ≡ left_by d (reading d text) → is_ok r ≡ true → Listed d text left
listed d left text (Ok v) a b i = by (reading d text) refl a b
  where
    by : (x : Result Net Fault) → reading d text ≡ x → faulted (Ok v) ≡ answered x → left ≡ left_by d x → Listed d text left
    by (Ok net) e a b = subst (Listed d text) (sym b) (text_read d net text e)
    by (Err f) e a b = cc
listed d left text (Err f) a b i = cc
