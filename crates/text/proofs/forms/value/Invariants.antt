use Rattle.std.proofs.Common.{◌≡◌, ◌+◌, ◌*◌, ◌^◌, ◌≤◌, drop}
use Rattle.text.specs.Grammar.{value_of, value_from}
use Rattle.text.proofs.forms.value.Given as goal

abbrev pub invariant-loop-b : goal.invariant-loop-b
invariant-loop-b l = (value_from l.v (drop l.b-index l.bytes) ≡ value_of l.bytes) × (l.v + 23 ≤ 23 * 10 ^ l.b-index)
