use Rattle.std.proofs.Common.{◌≡◌, ◌-◌, length}
use Rattle.text.specs.Items.{rest}
use Rattle.text.proofs.lexer.Lexer.raw.Given as goal

abbrev pub invariant-loop-b : goal.invariant-loop-b
invariant-loop-b l = (l.self.text.now ≡ l.initial.self.text.now) × (rest l.initial.self.state l.initial.self.from l.initial.self.at l.initial.self.text.now ≡ rest l.self.state l.self.from l.self.at l.self.text.now)

abbrev pub decreases-loop-b : goal.decreases-loop-b
decreases-loop-b l = length l.self.text.now - l.self.at
