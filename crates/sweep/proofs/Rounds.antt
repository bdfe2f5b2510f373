-- The table of best values that is worked out in rounds: its values are those of runs, and no short run is better.
use Rattle.std.proofs.Common.{◌≡◌, ℕ, zero, suc, ◌<◌, ◌≤◌, Bool, true, false, cond, ◌&&◌, eqb, List, [], ◌∷◌, ◌++◌, length, get_or, Some, None, Option, sym, refl, ap, ◌∙◌, subst, ⊎_elim, le_of_suc-le-suc, not-suc-le-zero, arith}
use Rattle.std.proofs.lemmas.List.FromFn.{get_or-map-range_with_len, length-map-range_with_len}
use Rattle.std.proofs.lemmas.List.{get_or_past, ext_get_or}
use Rattle.std.proofs.lemmas.Bool.{cases_lt, both_ways, and_parts, and_from, eqb-true, eq-eqb, cond-true, cond_both}
use Rattle.runs.specs.declared.arc.Arc.{Arc}
use Rattle.runs.specs.Graphs.{Graph, Sound, no_arc, arc_at}
use Rattle.runs.specs.Runs.{Run, value}
use Rattle.sweep.specs.Laws.{Ops, Laws}
use Rattle.sweep.specs.Best.{Allowed, BestAt, HoldsBest, through, better_of, reached, round, rounds, start_table, best_table}
use Rattle.sweep.specs.Front.{Made}
use Rattle.sweep.proofs.Basics.{le_same, run_push, value_push}

-- o holds a value that is no worse than y
abbrev pub NoWorse : {V : Type 0} → Ops V → Option V → V → Type 0
NoWorse {V} ops o y = (x : V) × (o ≡ Some x) × (ops.le x y ≡ true)

-- what holds of two values holds of the better
better_one : {V : Type 0} (ops : Ops V) (P : Option V → Type 0) (o p : Option V) → P o → P p → P (better_of ops o p)
better_one ops P None p h k = k
better_one ops P (Some x) None h k = h
better_one ops P (Some x) (Some y) h k = cond_both (ops.le x y) (Some x) (Some y) P (λ _. h) (λ _. k)

-- what holds of the value so far, and of what each arc brings, holds of the value reached
reached_one : {V : Type 0} (ops : Ops V) (old : List (Option V)) (v : ℕ) (P : Option V → Type 0) (arcs : List Arc) (marks : List Bool) (best : Option V) → P best
    → ((k : ℕ) → k < length arcs → get_or marks k false ≡ true → (get_or arcs k no_arc).to ≡ v → P (through ops (get_or old (get_or arcs k no_arc).from None) (get_or arcs k no_arc)))
    → P (reached ops old v arcs marks best)
reached_one ops old v P [] marks best h each = h
reached_one ops old v P (a ∷ arcs) [] best h each = h
reached_one ops old v P (a ∷ arcs) (mark ∷ marks) best h each =
    reached_one ops old v P arcs marks (cond (mark && eqb a.to v) (better_of ops best (through ops (get_or old a.from None) a)) best)
    (cond_both (mark && eqb a.to v) (better_of ops best (through ops (get_or old a.from None) a)) best P
    (λ t. let q = and_parts mark (eqb a.to v) t in better_one ops P best (through ops (get_or old a.from None) a) h (each 0 (omega arith) q.0 (eqb-true a.to v q.1)))
    (λ _. h))
    (λ k l m t. each (suc k) (omega arith) m t)

-- a place for each point, after any number of rounds
rounds_length : {V : Type 0} (ops : Ops V) (graph : Graph) (marks : List Bool) (j : ℕ) (t : List (Option V)) → length t ≡ graph.points → length (rounds ops graph marks j t) ≡ graph.points
unfolding rounds
rounds_length ops graph marks zero t h = h
rounds_length ops graph marks (suc j) t h = rounds_length ops graph marks j (round ops graph marks t) (length-map-range_with_len (λ w. reached ops t w graph.arcs marks (get_or t w None)) 0 graph.points)

pub table_length : {V : Type 0} (ops : Ops V) (graph : Graph) (marks : List Bool) (s : ℕ) → length (best_table ops graph marks s) ≡ graph.points
unfolding best_table
table_length ops graph marks s = rounds_length ops graph marks 64 (start_table ops graph.points s) (length-map-range_with_len (λ w. cond (eqb w s) (Some ops.begin) None) 0 graph.points)

module _ {V : Type 0} {ops : Ops V} {fits : ℕ → V → Type 0} {clip : V → V} (laws : Laws ops fits clip) where
  no_worse_same : (o : Option V) (x : V) → o ≡ Some x → NoWorse ops o x
  no_worse_same o x e = (x, e, le_same laws x)

  better_left : (o p : Option V) (y : V) → NoWorse ops o y → NoWorse ops (better_of ops o p) y
  better_left None p y h = cc h.1
  better_left (Some x) None y h = h
  better_left (Some x) (Some z) y h = cond_both (ops.le x z) (Some x) (Some z) (λ o. NoWorse ops o y) (λ _. h)
      (λ f. (z, refl, laws.trans z h.0 y (subst (λ (t : V). ops.le z t ≡ true) (cc h.1) (laws.total x z f)) h.2))

  better_right : (o p : Option V) (y : V) → NoWorse ops p y → NoWorse ops (better_of ops o p) y
  better_right None p y h = h
  better_right (Some x) None y h = cc h.1
  better_right (Some x) (Some z) y h = cond_both (ops.le x z) (Some x) (Some z) (λ o. NoWorse ops o y)
      (λ t. (x, refl, laws.trans x h.0 y (subst (λ (w : V). ops.le x w ≡ true) (cc h.1) t) h.2))
      (λ _. h)

  module _ (old : List (Option V)) (v : ℕ) (y : V) where
    reached_keeps : (arcs : List Arc) (marks : List Bool) (best : Option V) → NoWorse ops best y → NoWorse ops (reached ops old v arcs marks best) y
    reached_keeps [] marks best h = h
    reached_keeps (a ∷ arcs) [] best h = h
    reached_keeps (a ∷ arcs) (mark ∷ marks) best h =
        reached_keeps arcs marks (cond (mark && eqb a.to v) (better_of ops best (through ops (get_or old a.from None) a)) best)
        (cond_both (mark && eqb a.to v) (better_of ops best (through ops (get_or old a.from None) a)) best (λ o. NoWorse ops o y) (λ _. better_left best (through ops (get_or old a.from None) a) y h) (λ _. h))

    reached_takes : (arcs : List Arc) (marks : List Bool) (best : Option V) (k : ℕ) → k < length arcs → get_or marks k false ≡ true → (get_or arcs k no_arc).to ≡ v
        → NoWorse ops (through ops (get_or old (get_or arcs k no_arc).from None) (get_or arcs k no_arc)) y → NoWorse ops (reached ops old v arcs marks best) y
    reached_takes [] marks best k l m t h = absurd (not-suc-le-zero l)
    reached_takes (a ∷ arcs) [] best k l m t h = absurd (both_ways false refl m)
    reached_takes (a ∷ arcs) (mark ∷ marks) best zero l m t h =
        let on = and_from mark (eqb a.to v) m (eq-eqb a.to v t) in
        reached_keeps arcs marks (cond (mark && eqb a.to v) (better_of ops best (through ops (get_or old a.from None) a)) best)
        (subst (λ (o : Option V). NoWorse ops o y) (sym (cond-true (mark && eqb a.to v) (better_of ops best (through ops (get_or old a.from None) a)) best on)) (better_right best (through ops (get_or old a.from None) a) y h))
    reached_takes (a ∷ arcs) (mark ∷ marks) best (suc k) l m t h =
        reached_takes arcs marks (cond (mark && eqb a.to v) (better_of ops best (through ops (get_or old a.from None) a)) best) k (le_of_suc-le-suc l) m t h

  -- an extended value, where the arc's start has one
  through_more : (o : Option V) (a : Arc) (y : V) → NoWorse ops o y → NoWorse ops (through ops o a) (ops.ext y a)
  through_more o a y h = (ops.ext h.0 a, ap (λ (p : Option V). through ops p a) h.1, laws.mono h.0 y a h.2)

  through_some : (o : Option V) (a : Arc) (x : V) → through ops o a ≡ Some x → (z : V) × (o ≡ Some z) × (ops.ext z a ≡ x)
  through_some None a x e = cc
  through_some (Some z) a x e = (z, refl, cc)

  module _ (graph : Graph) (marks : List Bool) (sound : Sound graph) where
    round_at : (t : List (Option V)) (v : ℕ) → v < graph.points → get_or (round ops graph marks t) v None ≡ reached ops t v graph.arcs marks (get_or t v None)
    round_at t v h = get_or-map-range_with_len (λ w. reached ops t w graph.arcs marks (get_or t w None)) 0 graph.points v v None h (omega arith)

    -- a table's values are no worse after some rounds
    rounds_keep : (j : ℕ) (t : List (Option V)) (v : ℕ) (y : V) → v < graph.points → NoWorse ops (get_or t v None) y → NoWorse ops (get_or (rounds ops graph marks j t) v None) y
    unfolding rounds
    rounds_keep zero t v y vn h = h
    rounds_keep (suc j) t v y vn h = rounds_keep j (round ops graph marks t) v y vn (subst (λ (o : Option V). NoWorse ops o y) (sym (round_at t v vn)) (reached_keeps t v y graph.arcs marks (get_or t v None) h))

    -- a run of at most j arcs has a value in the table after j rounds that is no worse
    rounds_reach : (ks : List ℕ) (j : ℕ) (t : List (Option V)) (a v : ℕ) (y : V) → length ks ≤ j → a < graph.points → NoWorse ops (get_or t a None) y → Run (arc_at graph) (Allowed graph marks) a ks v
        → NoWorse ops (get_or (rounds ops graph marks j t) v None) (value ops.ext (arc_at graph) y ks)
    unfolding rounds
    rounds_reach [] j t a v y l an h r = subst (λ (i : ℕ). NoWorse ops (get_or (rounds ops graph marks j t) i None) y) r (rounds_keep j t a y an h)
    rounds_reach (k ∷ ks) zero t a v y l an h r = absurd (not-suc-le-zero l)
    rounds_reach (k ∷ ks) (suc j) t a v y l an h r =
        let arc : Arc = arc_at graph k in
        let here : NoWorse ops (get_or t arc.from None) y = subst (λ (i : ℕ). NoWorse ops (get_or t i None) y) (sym r.1) h in
        let taken = reached_takes t arc.to (ops.ext y arc) graph.arcs marks (get_or t arc.to None) k r.0.0 r.0.1 refl (through_more (get_or t arc.from None) arc y here) in
        rounds_reach ks j (round ops graph marks t) arc.to v (ops.ext y arc) (le_of_suc-le-suc l) (sound.to_below k)
        (subst (λ (o : Option V). NoWorse ops o (ops.ext y arc)) (sym (round_at t arc.to (sound.to_below k))) taken) r.2

    module _ (s : ℕ) where
      -- if o holds a value, it is that of a run to v
      abbrev OfRun : ℕ → Option V → Type 0
      OfRun v o = (x : V) → o ≡ Some x → (ks : List ℕ) × Run (arc_at graph) (Allowed graph marks) s ks v × (value ops.ext (arc_at graph) ops.begin ks ≡ x)

      round_of_runs : (t : List (Option V)) → ((v : ℕ) → OfRun v (get_or t v None)) → (v : ℕ) → OfRun v (get_or (round ops graph marks t) v None)
      round_of_runs t h v = ⊎_elim
          (λ (lt : v < graph.points). subst (OfRun v) (sym (round_at t v lt)) (reached_one ops t v (OfRun v) graph.arcs marks (get_or t v None) (h v) (brought t h v)))
          (λ (le : graph.points ≤ v) x e.
          let len = length-map-range_with_len (λ w. reached ops t w graph.arcs marks (get_or t w None)) 0 graph.points in
          cc (get_or_past (round ops graph marks t) v None (omega arith)))
          (cases_lt v graph.points)
        where
          brought : (t : List (Option V)) → ((v : ℕ) → OfRun v (get_or t v None)) → (v k : ℕ) → k < length graph.arcs → get_or marks k false ≡ true → (arc_at graph k).to ≡ v → OfRun v (through ops (get_or t (arc_at graph k).from None) (arc_at graph k))
          brought t h v k l m to x e =
              let z = through_some (get_or t (arc_at graph k).from None) (arc_at graph k) x e in
              let q = h (arc_at graph k).from z.0 z.1 in (
                q.0 ++ (k ∷ []),
                subst (Run (arc_at graph) (Allowed graph marks) s (q.0 ++ (k ∷ []))) to (run_push (arc_at graph) (Allowed graph marks) q.0 s (arc_at graph k).from k q.1 (l, m) refl),
                value_push (arc_at graph) (Allowed graph marks) ops.ext q.0 ops.begin k ∙ ap (λ (w : V). ops.ext w (arc_at graph k)) q.2 ∙ z.2,
              )

      rounds_of_runs : (j : ℕ) (t : List (Option V)) → ((v : ℕ) → OfRun v (get_or t v None)) → (v : ℕ) → OfRun v (get_or (rounds ops graph marks j t) v None)
      unfolding rounds
      rounds_of_runs zero t h = h
      rounds_of_runs (suc j) t h = rounds_of_runs j (round ops graph marks t) (round_of_runs t h)

      start_at : (v : ℕ) → v < graph.points → get_or (start_table ops graph.points s) v None ≡ cond (eqb v s) (Some ops.begin) None
      start_at v h = get_or-map-range_with_len (λ w. cond (eqb w s) (Some ops.begin) None) 0 graph.points v v None h (omega arith)

      start_of_runs : (v : ℕ) → OfRun v (get_or (start_table ops graph.points s) v None)
      start_of_runs v = ⊎_elim
          (λ (lt : v < graph.points). subst (OfRun v) (sym (start_at v lt)) (cond_both (eqb v s) (Some ops.begin) None (OfRun v)
          (λ t x e. ([], sym (eqb-true v s t), cc))
          (λ _ x e. cc)))
          (λ (le : graph.points ≤ v) x e.
          let len = length-map-range_with_len (λ w. cond (eqb w s) (Some ops.begin) None) 0 graph.points in
          cc (get_or_past (start_table ops graph.points s) v None (omega arith)))
          (cases_lt v graph.points)

      -- a value in the best table is that of a run
      pub table_of_runs : (v : ℕ) → OfRun v (get_or (best_table ops graph marks s) v None)
      unfolding best_table
      table_of_runs v = rounds_of_runs 64 (start_table ops graph.points s) start_of_runs v

      -- a run of at most 64 arcs has a value in the best table that is no worse
      pub table_reach : s < graph.points → (ks : List ℕ) (v : ℕ) → length ks ≤ 64 → Run (arc_at graph) (Allowed graph marks) s ks v → NoWorse ops (get_or (best_table ops graph marks s) v None) (value ops.ext (arc_at graph) ops.begin ks)
      unfolding best_table
      table_reach sn ks v l r = rounds_reach ks 64 (start_table ops graph.points s) s v ops.begin l sn
          (no_worse_same (get_or (start_table ops graph.points s) s None) ops.begin (start_at s sn ∙ cond-true (eqb s s) (Some ops.begin) None (eq-eqb s s refl))) r

      -- what is best, and comes from a run of at most 64 arcs, stands in the best table
      pub same_place : s < graph.points → (v : ℕ) (o : Option V) → BestAt ops (arc_at graph) (Allowed graph marks) s v o → ((y : V) → o ≡ Some y → Made ops (arc_at graph) (Allowed graph marks) s 0 v y) → o ≡ get_or (best_table ops graph marks s) v None
      same_place sn v None b m = go (get_or (best_table ops graph marks s) v None) refl
        where
          go : (p : Option V) → get_or (best_table ops graph marks s) v None ≡ p → ◌≡◌ {A = Option V} None p
          go None e = refl
          go (Some x) e = let q = table_of_runs v x e in absurd (b q.0 q.1)
      same_place sn v (Some y) b m =
          let d = m y refl in
          let few = d.3 in
          let q = table_reach sn d.0 v (omega arith) d.1 in
          let p = table_of_runs v q.0 q.1 in
          let qy : ops.le q.0 y ≡ true = subst (λ (t : V). ops.le q.0 t ≡ true) d.2 q.2 in
          let yq : ops.le y q.0 ≡ true = subst (λ (t : V). ops.le y t ≡ true) p.2 (b.1 p.0 p.1) in
          ap Some (laws.antisym y q.0 yq qy) ∙ sym q.1

      -- a table that is best at each point, by runs of at most 64 arcs
      pub same_table : s < graph.points → (now : List (Option V)) → length now ≡ graph.points
          → HoldsBest ops (arc_at graph) (Allowed graph marks) graph.points s now
          → ((v : ℕ) → v < graph.points → (y : V) → get_or now v None ≡ Some y → Made ops (arc_at graph) (Allowed graph marks) s 0 v y)
          → now ≡ best_table ops graph marks s
      same_table sn now long best short = ext_get_or None now (best_table ops graph marks s) (long ∙ sym (table_length ops graph marks s))
          (λ v h. let lt : v < graph.points = omega arith in same_place sn v (get_or now v None) (best v lt) (short v lt))
