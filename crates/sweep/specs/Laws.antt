-- What a grading is: how the value of a run is made, which of two values is better, and the laws that this keeps.
use Rattle.std.specs.Prelude.{◌≡◌, ℕ, ◌+◌, ◌≤◌, min, Bool, true, false, nat_le}
use Rattle.runs.specs.declared.arc.Arc.{Arc}

-- The operations of a grading: the value of the empty run, a run's value with one arc more, and `le x y`: x is no worse than y.
pub record Ops (V : Type 0) : Type 0 where
  pub begin : V
  pub ext : V → Arc → V
  pub le : V → V → Bool

-- The numbers of an arc are in a line's range.
abbrev pub Ranged : Arc → Type 0
Ranged a = (a.delay ≤ 1000000) × (a.room ≤ 1000)

-- The laws of a grading. `fits j x`: x can be the value of a run of j arcs. `clip x`: what x becomes in the machine.
pub record Laws {V : Type 0} (ops : Ops V) (fits : ℕ → V → Type 0) (clip : V → V) : Type 0 where
  -- of two values one is no worse
  pub total : (x y : V) → ops.le x y ≡ false → ops.le y x ≡ true
  pub trans : (x y z : V) → ops.le x y ≡ true → ops.le y z ≡ true → ops.le x z ≡ true
  pub antisym : (x y : V) → ops.le x y ≡ true → ops.le y x ≡ true → x ≡ y
  -- an extended value is no better
  pub worse : (x : V) (a : Arc) → ops.le x (ops.ext x a) ≡ true
  -- of two values the one that is no worse stays no worse when both are extended by the same arc
  pub mono : (x y : V) (a : Arc) → ops.le x y ≡ true → ops.le (ops.ext x a) (ops.ext y a) ≡ true
  pub fits_start : fits 0 ops.begin
  pub fits_more : (j : ℕ) (x : V) (a : Arc) → Ranged a → fits j x → fits (j + 1) (ops.ext x a)
  -- values of runs of at most 64 arcs are not clipped
  pub unclipped : (j : ℕ) (x : V) → j ≤ 64 → fits j x → clip x ≡ x

-- By delay: delays add up, and the smaller is better.
abbrev pub delay_ops : Ops ℕ
delay_ops = record { begin = 0; ext = λ x a. x + a.delay; le = λ x y. nat_le x y }

-- By room: the tightest arc counts, no arc has more than 1,000, and the larger is better.
abbrev pub room_ops : Ops ℕ
room_ops = record { begin = 1000; ext = λ x a. min x a.room; le = λ x y. nat_le y x }
