-- The items of a text cut it into its tokens.
use Rattle.std.proofs.Common.{◌≡◌, ℕ, ◌+◌, ◌<◌, Bool, true, false, cond, eqb, List, [], ◌∷◌, ◌++◌, length, Option, Some, None, sym, refl, ap, ◌∙◌, subst, arith}
use Rattle.std.proofs.lemmas.List.{nil_from_length}
use Rattle.std.proofs.lemmas.Bool.{eqb-true, eq-eqb, both_ways}
use Rattle.std.proofs.lemmas.Option.{none-some, same_Some}
use Rattle.text.specs.declared.token.Kind.{Kind}
use Rattle.text.specs.Items.{Item, class, goes_on, before, items}
use Rattle.text.specs.Tokens.{OfKind, Stops, Stands, Cuts}
use Rattle.text.proofs.Scans.{same_run}
use Rattle.text.proofs.Same.{space_none}

-- one space more in front
spaced : (n b : ℕ) (bs : List ℕ) (ts : List Item) → class b ≡ None → Cuts (n + 1) bs ts → Cuts n (b ∷ bs) ts
spaced n b bs [] e c = (e, c)
spaced n b bs (t ∷ ts) e c = (b ∷ c.0, c.1, ap (λ xs. b ∷ xs) c.2, (e, c.3), omega (arith, c.4), c.5, c.6)

-- spaces do not go on with another kind
past_spaces : (k : Kind) (bs : List ℕ) → OfKind None bs → Stops k bs
past_spaces k [] h = tt
past_spaces k (b ∷ bs) h = λ e. absurd (none-some k (sym h.0 ∙ e))

-- a token of another kind does not either
past_other : (k j : Kind) (w rest : List ℕ) → (j ≡ k → ⊥) → 0 < length w → OfKind (Some j) w → Stops k (w ++ rest)
past_other k j [] rest d l h = absurd (omega arith)
past_other k j (b ∷ w) rest d l h = λ e. d (same_Some j k (sym h.0 ∙ e))

-- nor do spaces or none, and then a token that was not joined
past_both : (k : Kind) (n : ℕ) (t : Item) (spaces rest : List ℕ) → goes_on k k ≡ true → cond (goes_on k t.kind) (eqb t.place n) false ≡ false → OfKind None spaces → t.place ≡ n + length spaces → Stands t rest → Stops k (spaces ++ (t.bytes ++ rest))
past_both k n t [] rest g v h p u = past_other k t.kind t.bytes rest differs u.some u.pure
  where
    differs : t.kind ≡ k → ⊥
    differs e =
        let q : eqb t.place n ≡ true = eq-eqb t.place n (omega (arith, p)) in
        let same : cond (goes_on k t.kind) (eqb t.place n) false ≡ true = ap (λ (j : Kind). cond (goes_on k j) (eqb t.place n) false) e ∙ ap (λ (b : Bool). cond b (eqb t.place n) false) g ∙ q in
        both_ways _ v same
past_both k n t (b ∷ spaces) rest g v h p u = λ e. absurd (none-some k (sym h.0 ∙ e))

-- a token of one byte, before what does not go on with it
alone : (k : Kind) (n b : ℕ) (bs : List ℕ) → class b ≡ Some k → (goes_on k k ≡ true → Stops k bs) → Stands (record { kind = k; place = n; bytes = b ∷ [] }) bs
alone k n b bs e r = record { some = omega arith; pure = (e, tt); run = r; single = λ _. refl }

-- a token with one byte more in front
longer : (k : Kind) (n b : ℕ) (t : Item) (rest : List ℕ) → class b ≡ Some k → goes_on k k ≡ true → t.kind ≡ k → Stands t rest → Stands (record { kind = k; place = n; bytes = b ∷ t.bytes }) rest
longer k n b t rest e g j u =
    record {
      some = omega arith;
      pure = (e, subst (λ (x : Kind). OfKind (Some x) t.bytes) j u.pure);
      run = λ h. subst (λ (x : Kind). Stops x rest) j (u.run (subst (λ (x : Kind). goes_on x x ≡ true) (sym j) h));
      single = λ h. absurd (both_ways _ h g);
    }

-- both of two tests hold
pub both_true : (a b : Bool) → cond a b false ≡ true → (a ≡ true) × (b ≡ true)
both_true true b e = (refl, e)
both_true false b e = cc

-- one byte that is no space more in front, where no token follows
first : (k : Kind) (n b : ℕ) (bs : List ℕ) → class b ≡ Some k → Cuts (n + 1) bs [] → Cuts n (b ∷ bs) (record { kind = k; place = n; bytes = b ∷ [] } ∷ [])
first k n b bs e c = ([], bs, refl, tt, omega arith, alone k n b bs e (λ _. past_spaces k bs c), c)

-- the same before a token that it is not joined to
apart : (k : Kind) (n b : ℕ) (bs : List ℕ) (t : Item) (ts : List Item) → class b ≡ Some k → cond (goes_on k t.kind) (eqb t.place (n + 1)) false ≡ false → Cuts (n + 1) bs (t ∷ ts) → Cuts n (b ∷ bs) (record { kind = k; place = n; bytes = b ∷ [] } ∷ t ∷ ts)
apart k n b bs t ts e v c = ([], bs, refl, tt, omega arith, alone k n b bs e (λ g. subst (Stops k) (sym c.2) (past_both k (n + 1) t c.0 c.1 g v c.3 c.4 c.5)), c)

-- the same before a token that it is joined to
joined : (k : Kind) (n b : ℕ) (bs : List ℕ) (t : Item) (ts : List Item) → class b ≡ Some k → cond (goes_on k t.kind) (eqb t.place (n + 1)) false ≡ true → Cuts (n + 1) bs (t ∷ ts) → Cuts n (b ∷ bs) (record { kind = k; place = n; bytes = b ∷ t.bytes } ∷ ts)
joined k n b bs t ts e v c =
    let a = both_true (goes_on k t.kind) (eqb t.place (n + 1)) v in
    let j = same_run k t.kind a.0 in
    let g : goes_on k k ≡ true = subst (λ (x : Kind). goes_on k x ≡ true) j a.0 in
    let p = eqb-true t.place (n + 1) a.1 in
    let none : c.0 ≡ [] = nil_from_length c.0 (omega (arith, p, c.4)) in
    let at : t.place + length t.bytes ≡ n + length (b ∷ t.bytes) = omega (arith, p) in
    ([], c.1, ap (λ xs. b ∷ xs) c.2 ∙ ap (λ xs. b ∷ (xs ++ (t.bytes ++ c.1))) none, tt, omega arith, longer k n b t c.1 e g j c.5, subst (λ (m : ℕ). Cuts m c.1 ts) at c.6)

-- one byte more in front
one_more : (k : Option Kind) (n b : ℕ) (bs : List ℕ) (ts : List Item) → class b ≡ k → Cuts (n + 1) bs ts → Cuts n (b ∷ bs) (before k n (b ∷ []) (n + 1) ts)
one_more None n b bs ts e c = subst (Cuts n (b ∷ bs)) (sym (space_none n (b ∷ []) (n + 1) ts)) (spaced n b bs ts e c)
one_more (Some k) n b bs [] e c = first k n b bs e c
one_more (Some k) n b bs (t ∷ ts) e c = either (cond (goes_on k t.kind) (eqb t.place (n + 1)) false) refl
  where
    either : (v : Bool) → cond (goes_on k t.kind) (eqb t.place (n + 1)) false ≡ v → Cuts n (b ∷ bs) (before (Some k) n (b ∷ []) (n + 1) (t ∷ ts))
    either true v = rw v (joined k n b bs t ts e v c)
    either false v = rw v (apart k n b bs t ts e v c)

-- the items of bytes from place n on cut them into tokens
pub cuts : (n : ℕ) (bs : List ℕ) → Cuts n bs (items n bs)
cuts n [] = tt
cuts n (b ∷ bs) = one_more (class b) n b bs (items (n + 1) bs) refl (cuts (n + 1) bs)
