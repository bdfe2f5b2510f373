-- What the drafts and networks of this crate mean.
use Rattle.std.specs.Prelude.{vec_items}
use Rattle.network.specs.declared.draft.Draft.{Draft}
use Rattle.network.specs.declared.ring.Ring.{Ring}
use Rattle.network.specs.declared.sealed.SealedList.{SealedList}
use Rattle.network.specs.Net.{Net}
use Rattle.network.specs.Rings.{ring}

-- The network that a draft would be if it were sealed now.
abbrev pub drawn : Draft → Net
drawn d = record { points = d.points; lines = vec_items d.lines }

-- A sealed list is what its draft was.
abbrev pub sealed_net : SealedList → Net
sealed_net s = drawn s.draft

abbrev pub ring_net : Ring → Net
ring_net r = ring r.points r.terms
