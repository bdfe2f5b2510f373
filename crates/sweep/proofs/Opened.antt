-- Runs of allowed arcs are runs of open lines.
use Rattle.std.proofs.Common.{◌≡◌, ℕ, ◌<◌, ◌≤◌, true, false, eqb, leb, List, [], ◌∷◌, length, get_or, Some, None, Option, sym, refl, ap, ◌∙◌, subst, arith}
use Rattle.std.proofs.lemmas.List.FromFn.{get_or-map-range_with_len, length-map-range_with_len}
use Rattle.std.proofs.lemmas.Bool.{and_parts, and_from, eqb-true, eq-eqb, leb-true, le-leb}
use Rattle.network.specs.Net.{Net, line_at}
use Rattle.runs.specs.declared.arc.Arc.{Arc}
use Rattle.runs.specs.Graphs.{no_arc, arc_at, seen_at, graph_of, open_marks}
use Rattle.runs.specs.Runs.{Run, value}
use Rattle.sweep.specs.Laws.{Ops}
use Rattle.sweep.specs.Best.{Allowed, BestAt}
use Rattle.sweep.specs.Values.{OpenLine}

-- what one search may use, the other may use, and it is the same arc
abbrev pub Within : (ℕ → Arc) → (ℕ → Type 0) → (ℕ → Arc) → (ℕ → Type 0) → Type 0
Within arc usable arc' usable' = (k : ℕ) → usable k → usable' k × (arc k ≡ arc' k)

module _ (arc : ℕ → Arc) (usable : ℕ → Type 0) (arc' : ℕ → Arc) (usable' : ℕ → Type 0) (w : Within arc usable arc' usable') where
  run_as : (ks : List ℕ) (s v : ℕ) → Run arc usable s ks v → Run arc' usable' s ks v
  run_as [] s v r = r
  run_as (k ∷ ks) s v r =
      let q = w k r.0 in
      (q.0, sym (ap (λ (a : Arc). a.from) q.1) ∙ r.1, subst (λ (i : ℕ). Run arc' usable' i ks v) (ap (λ (a : Arc). a.to) q.1) (run_as ks (arc k).to v r.2))

  value_as : {V : Type 0} (ext : V → Arc → V) (ks : List ℕ) (s v : ℕ) (x : V) → Run arc usable s ks v → value ext arc x ks ≡ value ext arc' x ks
  value_as ext [] s v x r = refl
  value_as {V} ext (k ∷ ks) s v x r =
      value_as ext ks (arc k).to v (ext x (arc k)) r.2 ∙ ap (λ (a : Arc). value ext arc' (ext x a) ks) (w k r.0).1

-- the best value over the same runs
pub best_as : {V : Type 0} (ops : Ops V) (arc : ℕ → Arc) (usable : ℕ → Type 0) (arc' : ℕ → Arc) (usable' : ℕ → Type 0) → Within arc usable arc' usable' → Within arc' usable' arc usable
    → (s v : ℕ) (o : Option V) → BestAt ops arc usable s v o → BestAt ops arc' usable' s v o
best_as ops arc usable arc' usable' w w' s v None b = λ ks r. b ks (run_as arc' usable' arc usable w' ks s v r)
best_as {V} ops arc usable arc' usable' w w' s v (Some x) b =
    let m = b.0 in (
      (m.0, run_as arc usable arc' usable' w m.0 s v m.1, sym (value_as arc usable arc' usable' w ops.ext m.0 s v ops.begin m.1) ∙ m.2),
      λ ks r. subst (λ (y : V). ops.le x y ≡ true) (sym (value_as arc' usable' arc usable w' ops.ext ks s v ops.begin r)) (b.1 ks (run_as arc' usable' arc usable w' ks s v r)),
    )

module _ (net : Net) (closures : List ℕ) (g : ℕ) (few : length net.lines ≤ 512) where
  seen_is : (k : ℕ) → k < length net.lines → arc_at (graph_of net closures g) k ≡ seen_at net closures g k
  seen_is k h = get_or-map-range_with_len (seen_at net closures g) 0 (length net.lines) k k no_arc h (omega arith)

  mark_is : (k : ℕ) → k < length net.lines → get_or (open_marks (graph_of net closures g)) k false ≡ (seen_at net closures g k).«open»
  unfolding open_marks
  mark_is k h =
      let l : k < 512 = omega arith in
      get_or-map-range_with_len (λ i. (arc_at (graph_of net closures g) i).«open») 0 512 k k false l (omega arith) ∙ ap (λ (a : Arc). a.«open») (seen_is k h)

  pub allowed_open : Within (arc_at (graph_of net closures g)) (Allowed (graph_of net closures g) (open_marks (graph_of net closures g))) (seen_at net closures g) (OpenLine net closures g)
  allowed_open k a =
      let e = length-map-range_with_len (seen_at net closures g) 0 (length net.lines) in
      let a0 = a.0 in
      let h : k < length net.lines = omega arith in
      let q = and_parts (eqb (get_or closures k 0) 0) (leb g (line_at net k).terms.room) (sym (mark_is k h) ∙ a.1) in
      ((h, eqb-true (get_or closures k 0) 0 q.0, leb-true g (line_at net k).terms.room q.1), seen_is k h)

  pub open_allowed : Within (seen_at net closures g) (OpenLine net closures g) (arc_at (graph_of net closures g)) (Allowed (graph_of net closures g) (open_marks (graph_of net closures g)))
  open_allowed k o =
      let e = length-map-range_with_len (seen_at net closures g) 0 (length net.lines) in
      let h = o.0 in
      ((omega arith, mark_is k h ∙ and_from (eqb (get_or closures k 0) 0) (leb g (line_at net k).terms.room) (eq-eqb (get_or closures k 0) 0 o.1) (le-leb g (line_at net k).terms.room o.2)), sym (seen_is k h))

  pub open_best : {V : Type 0} (ops : Ops V) (s v : ℕ) (o : Option V) → BestAt ops (arc_at (graph_of net closures g)) (Allowed (graph_of net closures g) (open_marks (graph_of net closures g))) s v o → BestAt ops (seen_at net closures g) (OpenLine net closures g) s v o
  open_best ops s v o b = best_as ops (arc_at (graph_of net closures g)) (Allowed (graph_of net closures g) (open_marks (graph_of net closures g))) (seen_at net closures g) (OpenLine net closures g) allowed_open open_allowed s v o b
