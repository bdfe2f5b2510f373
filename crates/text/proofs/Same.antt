-- The places of the items rise, and the scan from left to right gives the items of the definition.
use Rattle.std.proofs.Common.{◌≡◌, ℕ, ◌+◌, ◌<◌, ◌≤◌, Bool, true, false, cond, eqb, List, [], ◌∷◌, ◌++◌, length, Option, Some, None, sym, refl, ap, ◌∙◌, subst, append_assoc, append-nil, arith, eq-eqb}
use Rattle.text.specs.declared.token.Kind.{Kind}
use Rattle.text.specs.Items.{Item, class, goes_on, continues, one, before, items, scan, rest, Rising}
use Rattle.text.proofs.Scans.{same_kind}

choose : {A : Type 0} (P : A → Type 0) (b : Bool) (x y : A) → P x → P y → P (cond b x y)
choose P true x y h k = h
choose P false x y h k = k

rising_more : (m n top : ℕ) (ts : List Item) → m ≤ n → Rising n top ts → Rising m top ts
rising_more m n top [] h r = omega (arith, r)
rising_more m n top (t ∷ ts) h r = (omega (arith, r.0), r.1)

before_rises : (k : Option Kind) (p : ℕ) (w : List ℕ) (n top : ℕ) (ts : List Item) → p < n → n ≤ top → Rising n top ts → Rising p top (before k p w n ts)
before_rises None p w n top [] h l r = omega arith
before_rises None p w n top (t ∷ ts) h l r = (omega (arith, r.0), r.1)
before_rises (Some k) p w n top [] h l r = (omega arith, omega arith)
before_rises (Some k) p w n top (t ∷ ts) h l r =
    choose (Rising p top) (cond (goes_on k t.kind) (eqb t.place n) false) _ _
    (omega arith, rising_more (p + 1) (t.place + 1) top ts (omega (arith, r.0)) r.1)
    (omega arith, (omega (arith, r.0), r.1))

pub items_rise : (n : ℕ) (bs : List ℕ) → Rising n (n + length bs) (items n bs)
items_rise n [] = omega arith
items_rise n (b ∷ bs) =
    let top : n + 1 + length bs ≡ n + length (b ∷ bs) = omega arith in
    before_rises (class b) n (b ∷ []) (n + 1) (n + length (b ∷ bs)) (items (n + 1) bs) (omega arith) (omega arith) (subst (λ u. Rising (n + 1) u (items (n + 1) bs)) top (items_rise (n + 1) bs))

-- where a run goes on, two pieces of it are joined as one
joins : (k : Option Kind) (p : ℕ) (w : List ℕ) (n b : ℕ) (ts : List Item) → continues k k ≡ true → before k p (w ++ b ∷ []) (n + 1) ts ≡ before k p w n (before k n (b ∷ []) (n + 1) ts)
joins None p w n b ts e = cc
joins (Some k) p w n b [] e = let q = eq-eqb n n refl in simp (e, q)
joins (Some k) p w n b (t ∷ ts) e = let q = eq-eqb n n refl in aux (cond (goes_on k t.kind) (eqb t.place (n + 1)) false) refl
  where
    aux : (v : Bool) → cond (goes_on k t.kind) (eqb t.place (n + 1)) false ≡ v → before (Some k) p (w ++ b ∷ []) (n + 1) (t ∷ ts) ≡ before (Some k) p w n (before (Some k) n (b ∷ []) (n + 1) (t ∷ ts))
    aux true f = let q = eq-eqb n n refl in simp (f, e, q, append_assoc)
    aux false f = let q = eq-eqb n n refl in simp (f, e, q)

-- a space makes no item
pub space_none : (p : ℕ) (w : List ℕ) (m : ℕ) (ts : List Item) → before None p w m ts ≡ ts
space_none p w m [] = refl
space_none p w m (t ∷ ts) = refl

first_kind : (j : Kind) (p : ℕ) (w : List ℕ) (m : ℕ) (ts : List Item) → (u : Item) × (us : List Item) × (before (Some j) p w m ts ≡ u ∷ us) × (u.kind ≡ j)
first_kind j p w m [] = (record { kind = j; place = p; bytes = w }, [], refl, refl)
first_kind j p w m (t ∷ ts) = aux (cond (goes_on j t.kind) (eqb t.place m) false) refl
  where
    aux : (v : Bool) → cond (goes_on j t.kind) (eqb t.place m) false ≡ v → (u : Item) × (us : List Item) × (before (Some j) p w m (t ∷ ts) ≡ u ∷ us) × (u.kind ≡ j)
    aux true f = (record { kind = j; place = p; bytes = w ++ t.bytes }, ts, simp f, refl)
    aux false f = (record { kind = j; place = p; bytes = w }, t ∷ ts, simp f, refl)

-- where a run ends, nothing is joined to it
apart : (k j : Option Kind) (p : ℕ) (w : List ℕ) (n top b : ℕ) (ts : List Item) → Rising (n + 1) top ts → continues k j ≡ false → before k p w n (before j n (b ∷ []) (n + 1) ts) ≡ one k p w ++ before j n (b ∷ []) (n + 1) ts
apart k None p w n top b ts r e = rw (space_none n (b ∷ []) (n + 1) ts) (far ts r)
  where
    far : (ts : List Item) → Rising (n + 1) top ts → before k p w n ts ≡ one k p w ++ ts
    far [] r = sym (append-nil _)
    far (t ∷ ts) r = let q : eqb t.place n ≡ false = grind (arith, r.0) in simp q (same (continues k (Some t.kind)))
      where
        same : (v : Bool) → cond (cond v false false) (one k p (w ++ t.bytes) ++ ts) (one k p w ++ t ∷ ts) ≡ one k p w ++ t ∷ ts
        same true = refl
        same false = refl
apart k (Some j) p w n top b ts r e = let f = first_kind j n (b ∷ []) (n + 1) ts in rw f.2 (near f.1 f.0 f.3)
  where
    near : (us : List Item) (u : Item) → u.kind ≡ j → before k p w n (u ∷ us) ≡ one k p w ++ u ∷ us
    near us u f = simp (f, e)

module _ (k : Option Kind) (p : ℕ) (w : List ℕ) (n b : ℕ) (bs : List ℕ) where
  on : (v : Bool) → continues k (class b) ≡ v → scan k p (w ++ b ∷ []) (n + 1) bs ≡ before k p (w ++ b ∷ []) (n + 1) (items (n + 1) bs) → scan (class b) n (b ∷ []) (n + 1) bs ≡ items n (b ∷ bs) → scan k p w n (b ∷ bs) ≡ before k p w n (items n (b ∷ bs))
  on true e h1 h2 =
      let s = same_kind k (class b) e in
      let ek : continues k k ≡ true = subst (λ (j : Option Kind). continues k j ≡ true) s e in
      simp e (h1 ∙ joins k p w n b (items (n + 1) bs) ek ∙ ap (λ (j : Option Kind). before k p w n (before j n (b ∷ []) (n + 1) (items (n + 1) bs))) (sym s))
  on false e h1 h2 = simp e (ap (λ x. one k p w ++ x) h2 ∙ sym (apart k (class b) p w n _ b (items (n + 1) bs) (items_rise (n + 1) bs) e))

pub scan_is : (k : Option Kind) (p : ℕ) (w : List ℕ) (n : ℕ) (bs : List ℕ) → scan k p w n bs ≡ before k p w n (items n bs)
scan_is k p w n [] = refl
scan_is k p w n (b ∷ bs) = on k p w n b bs (continues k (class b)) refl (scan_is k p (w ++ b ∷ []) (n + 1) bs) (scan_is (class b) n (b ∷ []) (n + 1) bs)

-- what a new lexer has to give is the items of the text
pub all_items : (text : List ℕ) → rest None 0 0 text ≡ items 0 text
all_items text = scan_is None 0 [] 0 text ∙ space_none 0 [] 0 (items 0 text)
