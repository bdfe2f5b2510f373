use Rattle.std.proofs.Common.{◌≡◌, ◌+◌, ◌<◌, false, [], ◌∷◌, ◌++◌, length, get_or, min, None, sym, ap, ◌∙◌, subst, arith}
use Rattle.std.proofs.iter.Yields.{fronts}
use Rattle.std.proofs.lemmas.Bool.{both_ways}
use Rattle.std.proofs.lemmas.Iterator.{zips, YieldsList, YieldsList-from_slice, YieldsList-from_zip}
use Rattle.std.proofs.lemmas.Iterator.Consumers.{YieldsList-turn, YieldsList-end, YieldsList-from_enumerate}
use Rattle.std.proofs.lemmas.List.{length_push, get_or_read}
use Rattle.std.proofs.lemmas.List.FromFn.{length-enumerate_from, get_or-enumerate_from}
use Rattle.std.proofs.lemmas.Slice.Zip.{length-zip, get_or-zip}
use Rattle.std.specs.Iterator.Adapters.{enumerate_steps}
use Rattle.std.specs.List.{enumerate_from, zip}
use Rattle.sweep.specs.Front.{Picked}
use Rattle.sweep.proofs.Picks.{picked_pass, picked_take}
use Rattle.sweep.proofs.table.pick.Goals as goal
use Rattle.sweep.proofs.table.pick.Goals.{After-next, In-Some, else-not-done-via-else-not-done, else-not-done-via-then-not-done+in-None-1}

-- the loop goes over both slices side by side, numbered from 0
chain : (g : _) (c : After-next g) → YieldsList (enumerate_steps (zips fronts fronts)) (λ p. (p.0, (p.1.0.now, p.1.1.now))) c.into_iter-v-iterator.result (enumerate_from 0 (zip c.args.done.now c.args.best.now))
chain g c = YieldsList-from_enumerate (YieldsList-from_zip (YieldsList-from_slice _ (cc)) (YieldsList-from_slice _ (cc))) (cc)

-- one more item has been yielded, which is that of the next point
turn : (g : _) (c : In-Some g) → let n = length c.loop-v.yielded in (length (c.loop-v.yielded ++ ((c.in-Some.v, (c.in-Some.done, c.in-Some.value)) ∷ [])) ≡ n + 1) × (c.in-Some.v ≡ n) × (c.in-Some.done.now ≡ get_or c.args.done.now n false) × (c.in-Some.value.now ≡ get_or c.args.best.now n None)
turn g c =
    let ds = c.args.done.now in
    let bs = c.args.best.now in
    let n = length c.loop-v.yielded in
    let q = YieldsList-turn (chain g (goal.at.In-Some g c).After-next) c.loop-v.yielded c.loop-v.v-iterator c.loop-v.yielded_by c.next.result c.next.new.self (c.in-Some.v, (c.in-Some.done, c.in-Some.value)) c.in-Some.is c.next.ensures.steps in
    let few : n < min (length ds) (length bs) = omega (arith, q.0, length-enumerate_from 0 (zip ds bs), length-zip ds bs) in
    let lds : n < length ds = omega arith in
    let lbs : n < length bs = omega arith in
    let at = q.1 ∙ get_or-enumerate_from 0 (zip ds bs) n _ (omega (arith, length-zip ds bs)) in
    let both = ap (λ z. z.1) at ∙ get_or-zip ds bs n (c.in-Some.done.now, c.in-Some.value.now) lds lbs in (
      length_push c.loop-v.yielded _,
      ap (λ z. z.0) at ∙ (omega arith),
      get_or_read ds n _ lds (ap (λ z. z.0) both) false,
      get_or_read bs n _ lbs (ap (λ z. z.1) both) None,
    )

pub loop-v-preserved-in-loop-v : goal.loop-v-preserved-in-loop-v
loop-v-preserved-in-loop-v g c =
    let t = turn g (goal.at.loop-v-preserved-in-loop-v g c).In-Some in
    rw (t.0, c.first.ensures, t.1) (picked_take g.met.G.Grading.lawful c.args.done.now c.args.best.now c.loop-v.found (length c.loop-v.yielded) c.in-Some-value.x c.loop-v.invariant (sym t.2 ∙ c.if-not-done.true) (sym t.3 ∙ c.in-Some-value.is))

pub loop-v-preserved : goal.loop-v-preserved
loop-v-preserved g c =
    let t = turn g (goal.at.loop-v-preserved g c).In-Some in
    let none : get_or c.args.done.now (length c.loop-v.yielded) false ≡ false → get_or c.args.best.now (length c.loop-v.yielded) None ≡ None = elim c.else-not-done.branch [
      | else-not-done-via-else-not-done w ↦ λ d. absurd (both_ways c.in-Some.done.now (t.2 ∙ d) w.if-not-done.false)
      | else-not-done-via-then-not-done+in-None-1 w ↦ λ d. sym t.3 ∙ (cc)
    ] in
    rw t.0 (picked_pass g.met.G.Grading.lawful c.args.done.now c.args.best.now c.loop-v.found (length c.loop-v.yielded) c.loop-v.invariant none)

pub returns : goal.returns
returns g c =
    let end = YieldsList-end (chain g (goal.at.returns g c).After-next) c.loop-v.yielded c.loop-v.v-iterator c.loop-v.yielded_by c.next.result c.next.new.self c.in-None.is c.next.ensures.steps in
    let all : length c.loop-v.yielded ≡ length c.args.best.now = omega (arith, end.1, length-enumerate_from 0 (zip c.args.done.now c.args.best.now), length-zip c.args.done.now c.args.best.now) in
    subst (λ m. Picked g.G.Grading.ops.le m c.args.done.now c.args.best.now c.loop-v.found) all c.loop-v.invariant
