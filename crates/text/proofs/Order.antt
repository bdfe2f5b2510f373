-- The one pass answers the earliest fault of all, and of those at its place the lowest.
use Rattle.std.proofs.Common.{◌≡◌, ℕ, ◌+◌, ◌<◌, ◌≤◌, Bool, true, false, cond, List, [], ◌∷◌, ◌++◌, length, sym, refl, subst, inl, inr, arith, le-leb}
use Rattle.text.specs.Items.{Item, items, Rising}
use Rattle.text.specs.Grammar.{Slot, Seen, Out, nothing, read, fault, fails, good_byte, fits, ranged, below, fewer, unless, or_else, after, next, run, answer}
use Rattle.text.specs.Listing.{Fault}
use Rattle.text.specs.Rule.{faults_at, Recovery, onward, all_faults, In, BeforeAll, text_faults}
use Rattle.text.proofs.Same.{items_rise}

-- the questions are failed in rising order
abbrev From : ℕ → List ℕ → Type 0
From q [] = Unit {0}
From q (r ∷ rs) = (q ≤ r) × From q rs

from_less : (q r : ℕ) (rs : List ℕ) → q ≤ r → From r rs → From q rs
from_less q r [] h f = tt
from_less q r (x ∷ rs) h f = (omega (arith, f.0), from_less q r rs h f.1)

abbrev Sorted : List ℕ → Type 0
Sorted [] = Unit {0}
Sorted (q ∷ qs) = From q qs × Sorted qs

one_more : (b : Bool) (q r : ℕ) (qs : List ℕ) → q < r → From r qs × Sorted qs → From q (unless b q qs) × Sorted (unless b q qs)
one_more true q r qs h f = (from_less q r qs (omega arith) f.0, f.1)
one_more false q r qs h f = ((omega arith, from_less q r qs (omega arith) f.0), (from_less q r qs (omega arith) f.0, f.1))

fails_sorted : (c : Seen) (s : Slot) (t : Item) → Sorted (fails c s t)
fails_sorted c s t =
    (one_more (good_byte t) 2 3 _ (omega arith) (one_more (fits s t) 3 4 _ (omega arith) (one_more (ranged s t) 4 5 _ (omega arith) (one_more (below c s t) 5 6 _ (omega arith) (one_more (fewer c s t) 6 7 [] (omega arith) (tt, tt)))))).1

after_append : (f : Fault) (fs gs : List Fault) → BeforeAll f fs → BeforeAll f gs → BeforeAll f (fs ++ gs)
after_append f [] gs h k = k
after_append f (x ∷ fs) gs h k = (h.0, after_append f fs gs h.1 k)

same_place : (q p : ℕ) (qs : List ℕ) → From q qs → BeforeAll (record { number = q; place = p }) (faults_at p qs)
same_place q p [] f = tt
same_place q p (r ∷ qs) f = (inr (refl, f.0), same_place q p qs f.1)

-- every fault of items that rise from m on lies at m or later
abbrev Later : ℕ → List Fault → Type 0
Later m [] = Unit {0}
Later m (g ∷ gs) = (m ≤ g.place) × Later m gs

later_at : (m p : ℕ) (qs : List ℕ) (gs : List Fault) → m ≤ p → Later m gs → Later m (faults_at p qs ++ gs)
later_at m p [] gs h l = l
later_at m p (q ∷ qs) gs h l = (h, later_at m p qs gs h l)

later_less : (m n : ℕ) (gs : List Fault) → m ≤ n → Later n gs → Later m gs
later_less m n [] h l = tt
later_less m n (g ∷ gs) h l = (omega (arith, l.0), later_less m n gs h l.1)

later : (rec : Recovery) (c : Seen) (n m : ℕ) (ss : List Slot) (ts : List Item) → Rising m n ts → Later m (all_faults rec c n ss ts)
later rec c n m [] [] r = tt
later rec c n m (s ∷ ss) [] r = (r, tt)
later rec c n m [] (t ∷ ts) r = later_at m t.place (fails c nothing t) _ r.0.0 (later_less m (t.place + 1) _ (omega (arith, r.0.0)) (later rec (rec c [] t).0 n (t.place + 1) (rec c [] t).1 ts r.1))
later rec c n m (s ∷ ss) (t ∷ ts) r = later_at m t.place (fails c s t) _ r.0.0 (later_less m (t.place + 1) _ (omega (arith, r.0.0)) (later rec (onward rec c s ss t (fails c s t)).0 n (t.place + 1) (onward rec c s ss t (fails c s t)).1 ts r.1))

far : (f : Fault) (gs : List Fault) → Later (f.place + 1) gs → BeforeAll f gs
far f [] l = tt
far f (g ∷ gs) l = (inl (omega (arith, l.0)), far f gs l.1)

-- what an answer of a pass says of all the faults
abbrev pub Settles : Out → List Fault → Type 0
Settles (read c) fs = fs ≡ []
Settles (fault q p) fs = In (record { number = q; place = p }) fs × BeforeAll (record { number = q; place = p }) fs

-- an item that fails decides
fails_decides : (p : ℕ) (q : ℕ) (qs : List ℕ) (gs : List Fault) → From q qs → Later (p + 1) gs → Settles (fault q p) (faults_at p (q ∷ qs) ++ gs)
fails_decides p q qs gs f l = (inl refl, (inr (refl, omega arith), after_append _ (faults_at p qs) gs (same_place q p qs f) (far _ gs l)))

-- one item: `qs` are the questions that it fails
step : (p : ℕ) (qs : List ℕ) (o : Out) (gs : List Fault) → Sorted qs → (qs ≡ [] → Settles o gs) → Later (p + 1) gs → Settles (or_else qs p o) (faults_at p qs ++ gs)
step p [] o gs s d l = d refl
step p (q ∷ qs) o gs s d l = fails_decides p q qs gs s.0 l

nothing_fits : (c : Seen) (t : Item) → fails c nothing t ≡ [] → ⊥
nothing_fits c t = aux (good_byte t)
  where
    aux : (b : Bool) → unless b 2 (3 ∷ []) ≡ [] → ⊥
    aux true e = grind arith
    aux false e = grind arith

pub decides : (rec : Recovery) (c : Seen) (n m : ℕ) (ss : List Slot) (ts : List Item) → Rising m n ts → Settles (run c n ss ts) (all_faults rec c n ss ts)
decides rec c n m [] [] r = refl
decides rec c n m (s ∷ ss) [] r = (inl refl, (inr (refl, omega arith), tt))
decides rec c n m [] (t ∷ ts) r = step t.place (fails c nothing t) _ _ (fails_sorted c nothing t) (λ e. absurd (nothing_fits c t e)) (later rec (rec c [] t).0 n (t.place + 1) (rec c [] t).1 ts r.1)
decides rec c n m (s ∷ ss) (t ∷ ts) r =
    step t.place (fails c s t) _ _ (fails_sorted c s t)
    (λ e. subst (λ (qs : List ℕ). Settles (run (after c s t) n (next s t ss) ts) (all_faults rec (onward rec c s ss t qs).0 n (onward rec c s ss t qs).1 ts)) (sym e) (decides rec (after c s t) n (t.place + 1) (next s t ss) ts r.1))
    (later rec (onward rec c s ss t (fails c s t)).0 n (t.place + 1) (onward rec c s ss t (fails c s t)).1 ts r.1)

pub settles : (rec : Recovery) (c : Seen) (ss : List Slot) (text : List ℕ) → length text ≤ 65536 → Settles (answer c ss text) (text_faults rec c ss text)
settles rec c ss text h =
    let up : 0 + length text ≡ length text = omega arith in
    let pass = decides rec c (length text) 0 ss (items 0 text) (subst (λ (n : ℕ). Rising 0 n (items 0 text)) up (items_rise 0 text)) in
    subst (λ (b : Bool). Settles (cond b (run c (length text) ss (items 0 text)) (fault 1 65536)) (text_faults rec c ss text)) (sym (le-leb (length text) 65536 h)) pass
