use Rattle.std.proofs.Common.{◌≡◌, ◌-◌, [], ◌∷◌, length}
use Rattle.network.specs.Held.{drawn}
use Rattle.text.specs.declared.token.Kind.TheVariants.{Open}
use Rattle.text.specs.Grammar.{Seen, mark, form}
use Rattle.text.specs.Reads.{pass, Grown}
use Rattle.text.proofs.list.ListReader.lines.Given as goal

-- what was seen so far leads on to what is to come, and the draft holds its network
abbrev pub invariant-loop : goal.invariant-loop
invariant-loop l =
    (l.self.size ≡ l.initial.self.size)
    × Grown (drawn l.initial.draft) (drawn l.draft)
    × ((c : Seen) → c.net ≡ drawn l.initial.draft → (e : Seen) × (pass c (mark Open ∷ form ∷ []) l.initial.self ≡ pass e (mark Open ∷ form ∷ []) l.self) × (e.net ≡ drawn l.draft))

abbrev pub decreases-loop : goal.decreases-loop
decreases-loop l = 512 - length (drawn l.draft).lines
