-- The order of faults in its own words: of all faults of a text the earliest place decides, then the lower number.
use Rattle.std.specs.Prelude.{◌≡◌, ℕ, ◌<◌, ◌≤◌, ◌⊎◌, List, [], ◌∷◌, ◌++◌, length, Ok, Err, Result}
use Rattle.text.specs.Items.{Item, items}
use Rattle.text.specs.Grammar.{Slot, Seen, nothing, fails, after, next}
use Rattle.text.specs.Listing.{Fault}

-- The faults at a place, by the questions that failed there.
abbrev pub faults_at : ℕ → List ℕ → List Fault
faults_at p [] = []
faults_at p (q ∷ qs) = record { number = q; place = p } ∷ faults_at p qs

-- How a reader might go on after a faulty token: what it then takes as read, and the slots that it then expects.
abbrev pub Recovery : Type 0
Recovery = Seen → List Slot → Item → Seen × List Slot

abbrev pub onward : Recovery → Seen → Slot → List Slot → Item → List ℕ → Seen × List Slot
onward rec c s ss t [] = (after c s t, next s t ss)
onward rec c s ss t (q ∷ qs) = rec c (s ∷ ss) t

-- All faults of the tokens, whatever a reader expects after the first faulty one.
abbrev pub all_faults : Recovery → Seen → ℕ → List Slot → List Item → List Fault
all_faults rec c n [] [] = []
all_faults rec c n (s ∷ ss) [] = record { number = 3; place = n } ∷ []
all_faults rec c n [] (t ∷ ts) = faults_at t.place (fails c nothing t) ++ all_faults rec (rec c [] t).0 n (rec c [] t).1 ts
all_faults rec c n (s ∷ ss) (t ∷ ts) = faults_at t.place (fails c s t) ++ all_faults rec (onward rec c s ss t (fails c s t)).0 n (onward rec c s ss t (fails c s t)).1 ts

abbrev pub In : Fault → List Fault → Type 0
In f [] = ⊥
In f (g ∷ gs) = (f ≡ g) ⊎ In f gs

-- f comes before g: at an earlier place, or at the same place with no higher number.
abbrev pub Before : Fault → Fault → Type 0
Before f g = (f.place < g.place) ⊎ ((f.place ≡ g.place) × (f.number ≤ g.number))

abbrev pub BeforeAll : Fault → List Fault → Type 0
BeforeAll f [] = Unit {0}
BeforeAll f (g ∷ gs) = Before f g × BeforeAll f gs

-- What an answer says of all the faults: there is none, or it is the first of them.
abbrev pub Decides : {A : Type 0} → Result A Fault → List Fault → Type 0
Decides (Ok a) fs = fs ≡ []
Decides (Err f) fs = In f fs × BeforeAll f fs

-- The faults of a whole text of tokens.
abbrev pub text_faults : Recovery → Seen → List Slot → List ℕ → List Fault
text_faults rec c ss text = all_faults rec c (length text) ss (items 0 text)

-- For every text that is not too long and every way of going on after a fault, the answer is the first of all faults.
abbrev pub Earliest : {A : Type 0} → Seen → List Slot → List ℕ → Result A Fault → Type 0
Earliest c ss text r = length text ≤ 65536 → (rec : Recovery) → Decides r (text_faults rec c ss text)
