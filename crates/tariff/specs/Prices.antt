-- What a tariff means, and the prices of the rate tariff and the balanced tariff.
use Rattle.std.specs.Prelude.{◌≡◌, ℕ, ◌*◌, ◌≤◌, max, false, cond, ◌&&◌, [], ◌∷◌, Result, nat_le}
use Rattle.network.specs.declared.line.Charges.{Charges}
use Rattle.network.specs.Net.{chargeable}
use Rattle.network.specs.Refusals.{asks, judged}

-- What every tariff keeps: no price above 1,000,000, and 0 where a number is outside a line's range.
pub record Priced (price : Charges → ℕ) : Type 0 where
  pub most : (c : Charges) → price c ≤ 1000000
  pub outside : (c : Charges) → chargeable c ≡ false → price c ≡ 0

-- A price x for charges that are in a line's ranges, and 0 for all others.
abbrev pub in_line : Charges → ℕ → ℕ
in_line c x = cond (chargeable c) x 0

-- The rate tariff.
abbrev pub rate_price : Charges → ℕ
rate_price c = in_line c c.rate

-- The balanced tariff with the bounds J and L: the larger of jitter times L and loss times J.
abbrev pub balanced_price : ℕ → ℕ → Charges → ℕ
balanced_price J L c = in_line c (max (c.jitter * L) (c.loss * J))

-- The bounds of a balanced tariff, each 1 to 1,000, or the refusal.
abbrev pub bounds_taken : ℕ → ℕ → Result (ℕ × ℕ) ℕ
bounds_taken J L = judged (asks 9 (nat_le 1 J && (nat_le J 1000 && (nat_le 1 L && nat_le L 1000))) ∷ []) (J, L)
