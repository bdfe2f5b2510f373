-- The turns of the loops, as the code takes them.
use Rattle.std.proofs.Common.{◌≡◌, ℕ, zero, suc, ◌+◌, ◌<◌, ◌≤◌, Bool, true, false, ◌&&◌, eqb, List, length, get_or, set, replicate, Some, None, Option, Bor, sym, refl, ap, ◌∙◌, subst, ⊎_elim, zero-add, arith}
use Rattle.std.proofs.iter.Yields.{fronts}
use Rattle.std.proofs.lemmas.Bool.{both_ways, cases_lt, and_parts, and_from, eqb-true, eq-eqb}
use Rattle.std.proofs.lemmas.Iterator.{zips}
use Rattle.std.proofs.lemmas.List.{get_or_past}
use Rattle.std.proofs.lemmas.Slice.Zip.{zip_turn, zip_end}
use Rattle.std.specs.Iterator.{Yields}
use Rattle.std.specs.Iterator.Adapters.{zip_first, zip_second}
use Rattle.std.specs.Slice.Iter.{iter_rest}
use Rattle.std.specs.declared.iter.Zip.{Zip}
use Rattle.std.specs.declared.slice.Iter.{Iter}
use Rattle.runs.specs.declared.arc.Arc.{Arc}
use Rattle.runs.specs.declared.arcs.Arcs.{Arcs}
use Rattle.runs.specs.Graphs.{Graph, no_arc, arc_at}
use Rattle.runs.specs.Held.{graph, sound}
use Rattle.runs.specs.Runs.{value}
use Rattle.sweep.specs.Best.{Allowed}
use Rattle.sweep.specs.Front.{Keeps, Made, kept}
use Rattle.sweep.specs.Laws.{Ops, Laws, Ranged}
use Rattle.sweep.proofs.Basics.{run_fits}
use Rattle.sweep.proofs.Fronts.{skip_step, skip_rest, offer_step}

-- what the loop of `relax` reads in turn n
pub record Turn (arcs : Graph) (marks : List Bool) (n : ℕ) (arc : Arc) (mark : Bool) : Type 0 where
  pub within : n < length arcs.arcs
  pub arc_is : arc ≡ arc_at arcs n
  pub mark_is : get_or marks n false ≡ mark
  pub to_below : arc.to < arcs.points
  pub ranged : Ranged arc

-- a loop over the arcs of a table beside marks, which has yielded xs
module _ (a : Arcs) (marks : List Bool) (xs : List (Bor Arc × Bor Bool)) (s t u : Zip (Iter Arc) (Iter Bool)) (r : Option (Bor Arc × Bor Bool)) (left : iter_rest (zip_first s) ≡ (graph a).arcs) (right : iter_rest (zip_second s) ≡ marks) (y : Yields (zips fronts fronts) s xs t) where
  pub turn_of : (p : Bor Arc × Bor Bool) → r ≡ Some p → zips fronts fronts t r u → Turn (graph a) marks (length xs) p.0.now p.1.now
  turn_of p e h =
      let q = zip_turn (graph a).arcs marks xs s t u r left right y p e h in
      let good = sound a in
      let back = sym (q.2 no_arc) in record {
        within = q.0;
        arc_is = q.2 no_arc;
        mark_is = sym (q.3 false);
        to_below = subst (λ (x : Arc). x.to < a.points) back (good.to_below (length xs));
        ranged = subst Ranged back (good.delay_most (length xs), good.room_most (length xs));
      }

  -- no arc that may be used is left
  pub all_turned : r ≡ None → zips fronts fronts t r u → (j : ℕ) → Allowed (graph a) marks j → j < length xs
  all_turned e h j o =
      let end = zip_end (graph a).arcs marks xs s t u r left right y e h in
      ⊎_elim
      (λ (lt : j < length marks). omega (arith, o.0))
      (λ (le : length marks ≤ j). absurd (both_ways (get_or marks j false) (get_or_past marks j false le) o.1))
      (cases_lt j (length marks))

module _ {V : Type 0} {ops : Ops V} {fits : ℕ → V → Type 0} {clip : V → V} (laws : Laws ops fits clip) (arcs : Graph) (marks : List Bool) (u : ℕ) (x : V) (before : List (Option V)) (n : ℕ) (best : List (Option V)) (h : Keeps ops (arc_at arcs) (Allowed arcs marks) arcs.points u x before n best) {arc : Arc} {mark : Bool} (t : Turn arcs marks n arc mark) (m : ℕ) (next : m ≡ n + 1) where
  -- the arc is not allowed, or does not lead from u
  pub relax_skip : (mark && eqb arc.from u) ≡ false → Keeps ops (arc_at arcs) (Allowed arcs marks) arcs.points u x before m best
  relax_skip off = subst (λ (k : ℕ). Keeps ops (arc_at arcs) (Allowed arcs marks) arcs.points u x before k best) (sym next)
      (λ s done near made f. let q = h s done near made f in (skip_step laws (arc_at arcs) (Allowed arcs marks) arcs.points s done u n x best unused q.0, q.1))
    where
      unused : Allowed arcs marks n → (arc_at arcs n).from ≡ u → ⊥
      unused o e = both_ways (mark && eqb arc.from u) off (and_from mark (eqb arc.from u) (sym t.mark_is ∙ o.1) (eq-eqb arc.from u (ap (λ (a : Arc). a.from) t.arc_is ∙ e)))

  -- the arc's value y is offered to its far point, which then holds o
  pub relax_offer : (mark && eqb arc.from u) ≡ true → arc.to < length best → (y : V) (o : Option V) → y ≡ ops.ext x arc → o ≡ kept ops.le (get_or best arc.to None) y → Keeps ops (arc_at arcs) (Allowed arcs marks) arcs.points u x before m (set best arc.to o)
  relax_offer on wl y o ye oe = subst (λ (k : ℕ). Keeps ops (arc_at arcs) (Allowed arcs marks) arcs.points u x before k (set best arc.to o)) (sym next)
      (subst (λ (p : Option V). Keeps ops (arc_at arcs) (Allowed arcs marks) arcs.points u x before (n + 1) (set best arc.to p)) (sym (oe ∙ ap (kept ops.le (get_or best arc.to None)) ye))
      (subst (λ (a : Arc). a.from ≡ u → a.to < length best → Keeps ops (arc_at arcs) (Allowed arcs marks) arcs.points u x before (n + 1) (set best a.to (kept ops.le (get_or best a.to None) (ops.ext x a)))) (sym t.arc_is)
      (λ from to s done near made f. offer_step laws (arc_at arcs) (Allowed arcs marks) arcs.points s done u n x best (t.within, t.mark_is ∙ both.0) from to near made (h s done near made f)) (eqb-true arc.from u both.1) wl))
    where
      both : (mark ≡ true) × (eqb arc.from u ≡ true)
      both = and_parts mark (eqb arc.from u) on

-- work on all arcs that may be used is work on all arcs
pub relax_end : {V : Type 0} {ops : Ops V} {fits : ℕ → V → Type 0} {clip : V → V} (laws : Laws ops fits clip) (arc : ℕ → Arc) (usable : ℕ → Type 0) (n u : ℕ) (x : V) (before : List (Option V)) (k : ℕ) (best : List (Option V))
    → Keeps ops arc usable n u x before k best → (m : ℕ) → ((j : ℕ) → usable j → j < k) → Keeps ops arc usable n u x before m best
relax_end laws arc usable n u x before k best h m all s done near made f = let q = h s done near made f in (skip_rest laws arc usable n s done u k x best m all q.0, q.1)

-- the value of a run that is short enough may be extended
pub made_fits : {V : Type 0} {ops : Ops V} {fits : ℕ → V → Type 0} {clip : V → V} (laws : Laws ops fits clip) (arc : ℕ → Arc) (usable : ℕ → Type 0) (s u more : ℕ) (x : V) → ((k : ℕ) → usable k → Ranged (arc k)) → Made ops arc usable s (more + 1) u x → (j : ℕ) × (j < 64) × fits j x
made_fits {V} {ops} {fits} laws arc usable s u more x ranged near =
    let f = run_fits laws arc usable ranged near.0 0 s u ops.begin laws.fits_start near.1 in
    (length near.0, omega (arith, near.3), subst (fits (length near.0)) near.2 (subst (λ (j : ℕ). fits j (value ops.ext arc ops.begin near.0)) (zero-add (length near.0)) f))

-- a value that may be extended is extended without being clipped
pub extended : {V : Type 0} {ops : Ops V} {fits : ℕ → V → Type 0} {clip : V → V} (laws : Laws ops fits clip) (x : V) (a : Arc) → Ranged a → (j : ℕ) × (j < 64) × fits j x → clip (ops.ext x a) ≡ ops.ext x a
extended {V} {ops} laws x a r f = let l = f.1 in laws.unclipped (f.0 + 1) (ops.ext x a) (omega arith) (laws.fits_more f.0 x a r f.2)

pub none_done : (m a : ℕ) → get_or (replicate m false) a false ≡ false
none_done zero a = refl
none_done (suc m) zero = refl
none_done (suc m) (suc a) = none_done m a
