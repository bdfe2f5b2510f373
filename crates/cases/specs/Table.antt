-- Worked cases, as rows of one table.
use Rattle.std.specs.Prelude.{◌≡◌, ℕ, Bool, true, ◌&&◌, List, [], ◌∷◌, ◌==◌}
use Rattle.network.specs.declared.line.Charges.{Charges}
use Rattle.network.specs.Refusals.{left_by}
use Rattle.tariff.specs.Prices.{balanced_price}
use Rattle.tariff.specs.Weights.{new_weights, period_taken, weight_taken, period_price}

-- A case: these prices ask so much for these charges.
pub data Case : Type 0 where
  costs : (Charges → ℕ) → Charges → ℕ → Case

-- Whether the definitions give what the case says.
abbrev pub holds : Case → Bool
holds (costs prices c x) = prices c == x

abbrev pub all_hold : List Case → Bool
all_hold [] = true
all_hold (x ∷ xs) = holds x && all_hold xs

abbrev charged : ℕ → ℕ → ℕ → ℕ → Charges
charged rate class jitter loss = record { rate = rate; class = class; jitter = jitter; loss = loss }

abbrev pub table : List Case
table =
    costs (balanced_price 10 4) (charged 0 0 3 2) 20
    ∷ (costs (period_price (left_by new_weights (weight_taken new_weights 0 0 5))) (charged 30 0 0 0) 150
    ∷ (costs (period_price (left_by new_weights (period_taken new_weights 3))) (charged 30 7 0 0) 1
    ∷ []))

-- Every case of the table is as the definitions say.
abbrev pub TableHolds : Type 0
TableHolds = all_hold table ≡ true
