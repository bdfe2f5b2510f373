-- The weights and the prices of the rate card.
use Rattle.std.specs.Prelude.{ℕ, ◌+◌, ◌*◌, List, map}
use Rattle.network.specs.declared.line.Charges.{Charges}
use Rattle.tariff.specs.declared.period.Period.{Period}
use Rattle.tariff.specs.Held.{held}
use Rattle.tariff.specs.Weights.{period_price}

-- The weight of period p and class c on the card.
abbrev pub card_weight : ℕ → ℕ → ℕ
card_weight p c = 1 + p * (c + 1)

-- What charges cost under each of these period tariffs.
abbrev pub card_prices : List Period → Charges → List ℕ
card_prices tariffs charges = map (λ t. period_price (held t) charges) tariffs
