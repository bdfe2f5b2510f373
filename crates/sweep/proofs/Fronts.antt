-- The turns of a sweep.
use Rattle.std.proofs.Common.{◌≡◌, ℕ, ◌+◌, ◌<◌, ◌≤◌, Bool, true, false, cond, ◌⊎◌, List, [], ◌∷◌, ◌++◌, length, get_or, set, Some, None, Option, sym, refl, ap, ◌∙◌, subst, inl, inr, ⊎_elim, arith}
use Rattle.std.proofs.lemmas.Bool.{cases_Bool, cases_eq, both_ways}
use Rattle.std.proofs.lemmas.List.{get_or-set_same, get_or-set_other, set-get_or, length_push}
use Rattle.runs.specs.declared.arc.Arc.{Arc}
use Rattle.sweep.specs.Laws.{Ops, Laws}
use Rattle.runs.specs.Runs.{Run, value}
use Rattle.sweep.specs.Best.{BestAt, HoldsBest}
use Rattle.sweep.specs.Front.{Front, Made, Picked, kept, left}
use Rattle.sweep.proofs.Basics.{le_same, left_set, run_push, value_push}

-- arc j, from a point of value y, is worked in
abbrev In : {V : Type 0} → Ops V → (ℕ → Arc) → List (Option V) → V → ℕ → Type 0
In {V} ops arc best y j = (z : V) × (get_or best (arc j).to None ≡ Some z) × (ops.le z (ops.ext y (arc j)) ≡ true)

below_but : (j k : ℕ) → j < k + 1 → (j ≡ k → ⊥) → j < k
below_but j k l ne = omega arith

module _ {V : Type 0} {ops : Ops V} {fits : ℕ → V → Type 0} {clip : V → V} (laws : Laws ops fits clip) (arc : ℕ → Arc) (usable : ℕ → Type 0) (n s : ℕ) where
  -- arc k does not lead from u, or may not be used
  pub skip_step : (done : List Bool) (u k : ℕ) (x : V) (best : List (Option V)) → (usable k → (arc k).from ≡ u → ⊥) → Front ops arc usable n s done u k x best → Front ops arc usable n s done u (k + 1) x best
  skip_step done u k x best unused f = record {
    made = f.made;
    low = f.low;
    high = f.high;
    closed = λ j y o d h e. f.closed j y o d (λ fu. below_but j k (h fu) (λ jk. unused (subst usable jk o) (subst (λ (i : ℕ). (arc i).from ≡ u) jk fu))) e;
    begun = f.begun;
  }

  -- no arc from number k on may be used
  pub skip_rest : (done : List Bool) (u k : ℕ) (x : V) (best : List (Option V)) (m : ℕ) → ((j : ℕ) → usable j → j < k) → Front ops arc usable n s done u k x best → Front ops arc usable n s done u m x best
  skip_rest done u k x best m all f = record { made = f.made; low = f.low; high = f.high; closed = λ j y o d h e. f.closed j y o d (λ _. all j o) e; begun = f.begun }

  -- arc k leads from u, and its far point has a value that is no worse
  keep_step : (done : List Bool) (u k : ℕ) (x z : V) (best : List (Option V)) → (arc k).from ≡ u → get_or best u None ≡ Some x → get_or best (arc k).to None ≡ Some z → ops.le z (ops.ext x (arc k)) ≡ true → Front ops arc usable n s done u k x best → Front ops arc usable n s done u (k + 1) x best
  keep_step done u k x z best fu here at l f = record {
    made = f.made;
    low = f.low;
    high = f.high;
    closed = λ j y o d h e. ⊎_elim
        (λ jk.
        let e' : get_or best u None ≡ Some y = subst (λ (i : ℕ). get_or best i None ≡ Some y) (ap (λ (i : ℕ). (arc i).from) jk ∙ fu) e in
        let xy : x ≡ y = cc in
        subst (In ops arc best y) (sym jk) (z, at, subst (λ (t : V). ops.le z (ops.ext t (arc k)) ≡ true) xy l))
        (λ ne. f.closed j y o d (λ fu'. below_but j k (h fu') ne) e)
        (cases_eq j k);
    begun = f.begun;
  }

  -- arc k leads from u, and its far point w, which is not done, takes the better value y₀
  write_step : (done : List Bool) (u k w : ℕ) (x y₀ : V) (best best' : List (Option V)) → usable k → (arc k).from ≡ u → (arc k).to ≡ w → ops.ext x (arc k) ≡ y₀
      → get_or best' w None ≡ Some y₀ → ((v : ℕ) → (v ≡ w → ⊥) → get_or best' v None ≡ get_or best v None)
      → get_or done u false ≡ true → get_or best u None ≡ Some x → Made ops arc usable s (left done + 1) u x
      → get_or done w false ≡ false → ((z : V) → get_or best w None ≡ Some z → ops.le y₀ z ≡ true)
      → Front ops arc usable n s done u k x best → Front ops arc usable n s done u (k + 1) x best' × (get_or best' u None ≡ Some x)
  write_step done u k w x y₀ best best' o fu tw xy same other mark here near un over f = (
    record {
      made = λ v y vn e. ⊎_elim
          (λ p. (
            near.0 ++ (k ∷ []),
            subst (Run arc usable s (near.0 ++ (k ∷ []))) (tw ∙ sym p.0) (run_push arc usable near.0 s u k near.1 o fu),
            value_push arc usable ops.ext near.0 ops.begin k ∙ ap (λ (t : V). ops.ext t (arc k)) near.2 ∙ xy ∙ sym p.1,
            omega (arith, length_push near.0 k, near.3),
          ))
          (λ p. f.made v y vn p)
          (got v y e);
      low = λ a d. let z = f.low a d in (z.0, other a (apart a d) ∙ z.1, z.2);
      high = λ b y bn d e. ⊎_elim (λ p. subst (λ (t : V). ops.le x t ≡ true) (xy ∙ sym p.1) (laws.worse x (arc k))) (λ p. f.high b y bn d p) (got b y e);
      closed = λ j y o' d h e.
          let e' : get_or best (arc j).from None ≡ Some y = sym (other (arc j).from (apart (arc j).from d)) ∙ e in
          ⊎_elim
          (λ jk.
          let x_is : x ≡ y = cc (subst (λ (i : ℕ). get_or best i None ≡ Some y) (ap (λ (i : ℕ). (arc i).from) jk ∙ fu) e') in
          subst (In ops arc best' y) (sym jk) (y₀, subst (λ (i : ℕ). get_or best' i None ≡ Some y₀) (sym tw) same, subst (λ (t : V). ops.le y₀ t ≡ true) (sym xy ∙ ap (λ (t : V). ops.ext t (arc k)) x_is) (le_same laws y₀)))
          (λ ne.
          let z = f.closed j y o' d (λ fu'. below_but j k (h fu') ne) e' in
          let q = lower (arc j).to z.0 z.1 in
          (q.0, q.1, laws.trans q.0 z.0 (ops.ext y (arc j)) q.2 z.2))
          (cases_eq j k);
      begun = let z = f.begun in let q = lower s z.0 z.1 in (q.0, q.1, laws.trans q.0 z.0 ops.begin q.2 z.2);
    },
    other u (apart u mark) ∙ here,
  )
    where
      apart : (a : ℕ) → get_or done a false ≡ true → a ≡ w → ⊥
      apart a d e = both_ways (get_or done w false) un (subst (λ (i : ℕ). get_or done i false ≡ true) e d)

      got : (v : ℕ) (y : V) → get_or best' v None ≡ Some y → ((v ≡ w) × (y ≡ y₀)) ⊎ (get_or best v None ≡ Some y)
      got v y e = ⊎_elim
          (λ vw. inl (vw, (cc (subst (λ (i : ℕ). get_or best' i None ≡ Some y₀) (sym vw) same))))
          (λ ne. inr (sym (other v ne) ∙ e))
          (cases_eq v w)

      lower : (v : ℕ) (z : V) → get_or best v None ≡ Some z → (q : V) × (get_or best' v None ≡ Some q) × (ops.le q z ≡ true)
      lower v z e = ⊎_elim
          (λ vw. (y₀, subst (λ (i : ℕ). get_or best' i None ≡ Some y₀) (sym vw) same, over z (subst (λ (i : ℕ). get_or best i None ≡ Some z) vw e)))
          (λ ne. (z, other v ne ∙ e, le_same laws z))
          (cases_eq v w)

  -- arc k leads from u, and its value is offered to its far point
  pub offer_step : (done : List Bool) (u k : ℕ) (x : V) (best : List (Option V)) → usable k → (arc k).from ≡ u → (arc k).to < length best
      → get_or done u false ≡ true → Made ops arc usable s (left done + 1) u x → Front ops arc usable n s done u k x best × (get_or best u None ≡ Some x)
      → let best' = set best (arc k).to (kept ops.le (get_or best (arc k).to None) (ops.ext x (arc k))) in Front ops arc usable n s done u (k + 1) x best' × (get_or best' u None ≡ Some x)
  offer_step done u k x best o fu wl mark near f = go (get_or best w None) refl
    where
      w : ℕ
      w = (arc k).to

      After : List (Option V) → Type 0
      After b = Front ops arc usable n s done u (k + 1) x b × (get_or b u None ≡ Some x)

      written : get_or done (arc k).to false ≡ false → ((z : V) → get_or best (arc k).to None ≡ Some z → ops.le (ops.ext x (arc k)) z ≡ true) → After (set best (arc k).to (Some (ops.ext x (arc k))))
      written un over = write_step done u k (arc k).to x (ops.ext x (arc k)) best (set best (arc k).to (Some (ops.ext x (arc k)))) o fu refl refl
          (get_or-set_same best (arc k).to (Some (ops.ext x (arc k))) None wl) (λ v ne. get_or-set_other best (arc k).to v (Some (ops.ext x (arc k))) None ne) mark f.1 near un over f.0

      tested : (z : V) (t : Bool) → get_or best (arc k).to None ≡ Some z → ops.le z (ops.ext x (arc k)) ≡ t → After (set best (arc k).to (cond t (Some z) (Some (ops.ext x (arc k)))))
      tested z true e l = subst After (sym (ap (set best (arc k).to) (sym e) ∙ set-get_or best (arc k).to None)) (keep_step done u k x z best fu f.1 e l f.0, f.1)
      tested z false e l = written
          (⊎_elim (λ d. let q = f.0.low (arc k).to d in absurd (both_ways (ops.le z (ops.ext x (arc k))) l (laws.trans z x (ops.ext x (arc k)) (subst (λ (t : V). ops.le t x ≡ true) (cc q.1) q.2) (laws.worse x (arc k))))) (λ d. d) (cases_Bool (get_or done (arc k).to false)))
          (λ z' e'. subst (λ (t : V). ops.le (ops.ext x (arc k)) t ≡ true) (cc) (laws.total z (ops.ext x (arc k)) l))

      go : (old : Option V) → get_or best (arc k).to None ≡ old → After (set best (arc k).to (kept ops.le old (ops.ext x (arc k))))
      go None e = written
          (⊎_elim (λ d. let q = f.0.low (arc k).to d in cc q.1) (λ d. d) (cases_Bool (get_or done (arc k).to false)))
          (λ z e'. cc)
      go (Some z) e = tested z (ops.le z (ops.ext x (arc k))) e refl

  -- point p .0 is picked: it is done from now on, and its arcs are yet to be worked in
  pub pick_step : (done : List Bool) (u k : ℕ) (x : V) (best : List (Option V)) (p : ℕ × V) → p.0 < length done → ((j : ℕ) → usable j → j < k) → Picked ops.le n done best (Some p) → Front ops arc usable n s done u k x best
      → Front ops arc usable n s (set done p.0 true) p.0 0 p.1 best × Made ops arc usable s (left (set done p.0 true) + 1) p.0 p.1
  pick_step done u k x best p ul all h f = (
    record {
      made = λ v y vn e. let q = f.made v y vn e in (q.0, q.1, q.2, omega (arith, q.3, fewer));
      low = λ a d. ⊎_elim
          (λ au. (p.1, subst (λ (i : ℕ). get_or best i None ≡ Some p.1) (sym au) h.2, le_same laws p.1))
          (λ ne. let z = f.low a (sym (other a ne) ∙ d) in (z.0, z.1, laws.trans z.0 x p.1 z.2 (f.high p.0 p.1 h.0 h.1 h.2)))
          (cases_eq a p.0);
      high = λ b y bn d e. ⊎_elim
          (λ bu. absurd (both_ways (get_or (set done p.0 true) b false) d (subst (λ (i : ℕ). get_or (set done p.0 true) i false ≡ true) (sym bu) same)))
          (λ ne. h.3 b bn y (sym (other b ne) ∙ d) e)
          (cases_eq b p.0);
      closed = λ j y o d c e. ⊎_elim
          (λ fu. absurd (nothing_below j (c fu)))
          (λ ne. f.closed j y o (sym (other (arc j).from ne) ∙ d) (λ _. all j o) e)
          (cases_eq (arc j).from p.0);
      begun = f.begun;
    },
    let q = f.made p.0 p.1 h.0 h.2 in (q.0, q.1, q.2, omega (arith, q.3, fewer)),
  )
    where
      fewer : left (set done p.0 true) + 1 ≡ left done
      fewer = left_set done p.0 ul h.1

      same : get_or (set done p.0 true) p.0 false ≡ true
      same = get_or-set_same done p.0 true false ul

      other : (a : ℕ) → (a ≡ p.0 → ⊥) → get_or (set done p.0 true) a false ≡ get_or done a false
      other a ne = get_or-set_other done p.0 a true false ne

      nothing_below : (j : ℕ) → j < 0 → ⊥
      nothing_below j l = omega arith

  -- no point is left to pick
  module _ (done : List Bool) (u k : ℕ) (x : V) (best : List (Option V)) (all : (j : ℕ) → usable j → j < k) (ends : (j : ℕ) → usable j → (arc j).from < n) (h : Picked ops.le n done best None) (f : Front ops arc usable n s done u k x best) where
    worked_in : (j : ℕ) (y : V) → usable j → get_or best (arc j).from None ≡ Some y → In ops arc best y j
    worked_in j y o e = ⊎_elim (λ d. f.closed j y o d (λ _. all j o) e) (λ d. cc (h (arc j).from (ends j o) d)) (cases_Bool (get_or done (arc j).from false))

    -- each run is no better than the value at its end
    no_better : (ks : List ℕ) (a v : ℕ) (z y : V) → get_or best a None ≡ Some z → ops.le z y ≡ true → Run arc usable a ks v → (q : V) × (get_or best v None ≡ Some q) × (ops.le q (value ops.ext arc y ks) ≡ true)
    no_better [] a v z y e l r = (z, subst (λ (i : ℕ). get_or best i None ≡ Some z) r e, l)
    no_better (j ∷ ks) a v z y e l r =
        let c = worked_in j z r.0 (subst (λ (i : ℕ). get_or best i None ≡ Some z) (sym r.1) e) in
        no_better ks (arc j).to v c.0 (ops.ext y (arc j)) c.1 (laws.trans c.0 (ops.ext z (arc j)) (ops.ext y (arc j)) c.2 (laws.mono z y (arc j) l)) r.2

    -- each value is that of a run of at most 64 arcs
    pub short : (v : ℕ) → v < n → (y : V) → get_or best v None ≡ Some y → Made ops arc usable s 0 v y
    short v vn y e = let m = f.made v y vn e in (m.0, m.1, m.2, omega (arith, m.3))

    pub swept : HoldsBest ops arc usable n s best
    swept v vn = go (get_or best v None) refl
      where
        go : (b : Option V) → get_or best v None ≡ b → BestAt ops arc usable s v b
        go None e = λ ks r. let q = no_better ks s v f.begun.0 ops.begin f.begun.1 f.begun.2 r in cc q.1
        go (Some y) e =
            let m = f.made v y vn e in
            ((m.0, m.1, m.2), λ ks r. let q = no_better ks s v f.begun.0 ops.begin f.begun.1 f.begun.2 r in subst (λ (t : V). ops.le t (value ops.ext arc ops.begin ks) ≡ true) (cc q.1) q.2)

  -- nothing is done yet
  pub begin_step : (done : List Bool) (k : ℕ) (best : List (Option V)) → left done ≤ 64 → ((a : ℕ) → get_or done a false ≡ false) → get_or best s None ≡ Some ops.begin → ((v : ℕ) → v < n → (v ≡ s → ⊥) → get_or best v None ≡ None) → Front ops arc usable n s done 0 k ops.begin best
  begin_step done k best few none_done at others = record {
    made = λ v y vn e. ⊎_elim (λ vs. ([], sym vs, is v y vs e, omega (arith, few))) (λ ne. cc (others v vn ne)) (cases_eq v s);
    low = λ a d. absurd (both_ways (get_or done a false) (none_done a) d);
    high = λ b y bn d e. ⊎_elim (λ bs. subst (λ (t : V). ops.le ops.begin t ≡ true) (is b y bs e) (le_same laws ops.begin)) (λ ne. cc (others b bn ne)) (cases_eq b s);
    closed = λ j y o d c e. absurd (both_ways (get_or done (arc j).from false) (none_done (arc j).from) d);
    begun = (ops.begin, at, le_same laws ops.begin);
  }
    where
      is : (v : ℕ) (y : V) → v ≡ s → get_or best v None ≡ Some y → ops.begin ≡ y
      is v y vs e = cc (subst (λ (i : ℕ). get_or best i None ≡ Some y) vs e)

-- there is one best value
pub best_unique : {V : Type 0} {ops : Ops V} {fits : ℕ → V → Type 0} {clip : V → V} (laws : Laws ops fits clip) (arc : ℕ → Arc) (usable : ℕ → Type 0) (s v : ℕ) (a b : Option V) → BestAt ops arc usable s v a → BestAt ops arc usable s v b → a ≡ b
best_unique laws arc usable s v None None p q = refl
best_unique laws arc usable s v None (Some y) p q = absurd (p q.0.0 q.0.1)
best_unique laws arc usable s v (Some x) None p q = absurd (q p.0.0 p.0.1)
best_unique {V} {ops} laws arc usable s v (Some x) (Some y) p q =
    let xy : ops.le x y ≡ true = subst (λ (t : V). ops.le x t ≡ true) q.0.2 (p.1 q.0.0 q.0.1) in
    let yx : ops.le y x ≡ true = subst (λ (t : V). ops.le y t ≡ true) p.0.2 (q.1 p.0.0 p.0.1) in
    ap Some (laws.antisym x y xy yx)
