-- The period tariff: its weights, how they are set, and its prices.
use Rattle.std.specs.Prelude.{ℕ, ◌*◌, cond, ◌&&◌, List, [], ◌∷◌, replicate, Result, ◌==◌, nat_le, slice_index, slice_index_or, slice_set}
use Rattle.network.specs.declared.line.Charges.{Charges}
use Rattle.network.specs.Refusals.{asks, judged}
use Rattle.tariff.specs.declared.period.row.Row.{Row}
use Rattle.tariff.specs.Prices.{in_line}

-- What a period tariff holds: the period that it is in, and for each period a row of weights, one for each class.
pub record Weights : Type 0 where
  pub period : ℕ
  pub rows : List Row

-- What stands where there is no row.
abbrev pub no_row : Row
no_row = record { weights = [] }

-- The weight of period p and class c.
abbrev pub weight_at : List Row → ℕ → ℕ → ℕ
weight_at rows p c = slice_index (slice_index_or rows p no_row).weights c

-- The rows with v for the weight of period p and class c.
abbrev pub with_weight : List Row → ℕ → ℕ → ℕ → List Row
with_weight rows p c v = slice_set rows p (record { weights = slice_set (slice_index_or rows p no_row).weights c v })

-- A new tariff is in period 0, and all weights are 1.
abbrev pub new_weights : Weights
new_weights = record { period = 0; rows = replicate 4 (record { weights = replicate 8 1 }) }

-- The tariff in period p, or the refusal.
abbrev pub period_taken : Weights → ℕ → Result Weights ℕ
period_taken w p = judged (asks 8 (nat_le p 3) ∷ []) (record { period = p; rows = w.rows })

-- The tariff with v for the weight of period p and class c, or the refusal.
abbrev pub weight_taken : Weights → ℕ → ℕ → ℕ → Result Weights ℕ
weight_taken w p c v = judged (asks 8 (nat_le p 3 && (nat_le c 7 && (nat_le 1 v && nat_le v 100))) ∷ []) (record { period = w.period; rows = with_weight w.rows p c v })

-- A line of class 7 is free.
abbrev pub freed : ℕ → ℕ → ℕ
freed class x = cond (class == 7) 0 x

-- In period 3 a price of 0 becomes 1.
abbrev pub raised : ℕ → ℕ → ℕ
raised period x = cond (period == 3 && x == 0) 1 x

-- What becomes of a price x in a period, for a line of a class: first freed, then raised.
abbrev pub settled : ℕ → ℕ → ℕ → ℕ
settled period class x = raised period (freed class x)

-- The price: the rate times the weight of the period and the line's class, settled.
abbrev pub period_price : Weights → Charges → ℕ
period_price w c = in_line c (settled w.period c.class (c.rate * weight_at w.rows w.period c.class))
