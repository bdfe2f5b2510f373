-- What the period tariff of this crate means.
use Rattle.tariff.specs.declared.period.Period.{Period}
use Rattle.tariff.specs.Weights.{Weights}

abbrev pub held : Period → Weights
held t = record { period = t.period; rows = t.rows }
