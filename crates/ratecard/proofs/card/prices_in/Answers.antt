use Rattle.std.proofs.Common.{rules}
use Rattle.tariff.specs.Held.{held}
use Rattle.tariff.specs.Weights.{period_price}
use Rattle.ratecard.proofs.ArrayMaps.{mapped}
use Rattle.ratecard.proofs.card.prices_in.Goals as goal

pub returns : goal.returns
returns c = mapped _ (λ t. period_price (held t) c.args.charges) _ (λ x y q k. search rules) c.args.periods c.map.result (search rules) 4 c.map.ensures.items
