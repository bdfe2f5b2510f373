-- Order and runs, and how many points are left.
use Rattle.std.proofs.Common.{◌≡◌, ℕ, zero, suc, ◌+◌, ◌<◌, Bool, true, false, List, [], ◌∷◌, ◌++◌, length, get_or, set, sym, refl, ◌∙◌, subst, ⊎_elim, add-zero, arith}
use Rattle.std.proofs.lemmas.Bool.{cases_Bool, both_ways}
use Rattle.runs.specs.declared.arc.Arc.{Arc}
use Rattle.sweep.specs.Laws.{Ops, Laws, Ranged}
use Rattle.runs.specs.Runs.{Run, value}
use Rattle.sweep.specs.Front.{left}

-- one more point is done
pub left_set : (ds : List Bool) (u : ℕ) → u < length ds → get_or ds u false ≡ false → left (set ds u true) + 1 ≡ left ds
left_set [] u l e = absurd (omega arith)
left_set (true ∷ ds) zero l e = absurd (both_ways true e refl)
left_set (false ∷ ds) zero l e = omega arith
left_set (true ∷ ds) (suc u) l e = left_set ds u (omega arith) e
left_set (false ∷ ds) (suc u) l e = omega (arith, left_set ds u (omega arith) e)

module _ (arc : ℕ → Arc) (usable : ℕ → Type 0) where
  -- a run with one arc more
  pub run_push : (ks : List ℕ) (s u k : ℕ) → Run arc usable s ks u → usable k → (arc k).from ≡ u → Run arc usable s (ks ++ (k ∷ [])) (arc k).to
  run_push [] s u k r o e = (o, e ∙ sym r, refl)
  run_push (j ∷ ks) s u k r o e = (r.0, r.1, run_push ks (arc j).to u k r.2 o e)

  pub value_push : {V : Type 0} (ext : V → Arc → V) (ks : List ℕ) (x : V) (k : ℕ) → value ext arc x (ks ++ (k ∷ [])) ≡ ext (value ext arc x ks) (arc k)
  value_push ext [] x k = refl
  value_push ext (j ∷ ks) x k = value_push ext ks (ext x (arc j)) k

module _ {V : Type 0} {ops : Ops V} {fits : ℕ → V → Type 0} {clip : V → V} (laws : Laws ops fits clip) where
  pub le_same : (x : V) → ops.le x x ≡ true
  le_same x = ⊎_elim (λ e. e) (λ e. laws.total x x e) (cases_Bool (ops.le x x))

  -- what a run of few arcs makes is within the bounds of the code's numbers
  pub run_fits : (arc : ℕ → Arc) (usable : ℕ → Type 0) → ((k : ℕ) → usable k → Ranged (arc k)) → (ks : List ℕ) (j s v : ℕ) (x : V) → fits j x → Run arc usable s ks v → fits (j + length ks) (value ops.ext arc x ks)
  run_fits arc usable ranged [] j s v x f r = rw add-zero f
  run_fits arc usable ranged (k ∷ ks) j s v x f r =
      let t = run_fits arc usable ranged ks (j + 1) (arc k).to v (ops.ext x (arc k)) (laws.fits_more j x (arc k) (ranged k r.0) f) r.2 in
      let e : (j + 1) + length ks ≡ j + suc (length ks) = omega arith in
      subst (λ (i : ℕ). fits i (value ops.ext arc (ops.ext x (arc k)) ks)) e t
