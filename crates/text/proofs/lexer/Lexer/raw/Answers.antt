use Rattle.std.proofs.Common.{◌≡◌, false, [], is_some, Some, None, Option, sym, refl, ◌∙◌, arith, rules}
use Rattle.std.proofs.lemmas.Grind.{common_steps}
use Rattle.text.specs.declared.token.Token.{Token}
use Rattle.text.specs.Gives.{shown}
use Rattle.text.proofs.Scans.{Step, stays, parts}
use Rattle.text.proofs.lexer.Lexer.raw.Goals as goal
use Rattle.text.proofs.lexer.Lexer.raw.Goals.{After-step, else-not-step-via-then-not-step+else-is_some, else-not-step-via-else-not-step}

-- no token is shown as no item
shown_none : (o : Option Token) → is_some o ≡ false → shown o ≡ []
shown_none None e = refl
shown_none (Some t) e = absurd (grind arith)

made : (c : After-step) → Step c.loop-b.self.state c.loop-b.self.from c.loop-b.self.at c.loop-b.self.text.now c.step.new.self.state c.step.new.self.from c.step.new.self.at c.step.new.self.text.now c.step.result
made c = record { begun = c.loop-b.self.begun; more = grind (arith, common_steps); text_is = c.step.ensures.text; at_is = c.step.ensures.at; state_is = grind (arith, common_steps); goes_is = grind (arith, common_steps); from_is = c.step.ensures.from }

pub loop-b-preserved : goal.loop-b-preserved
loop-b-preserved c =
    let m = made (goal.at.loop-b-preserved c).After-step in
    elim c.else-not-step.branch [
      | else-not-step-via-then-not-step+else-is_some w ↦ (c.step.ensures.text ∙ c.loop-b.invariant.0, c.loop-b.invariant.1 ∙ parts m w.if-not-step.true [] (sym (shown_none c.ended-run.result (search rules)) ∙ c.ended-run.ensures))
      | else-not-step-via-else-not-step w ↦ (c.step.ensures.text ∙ c.loop-b.invariant.0, c.loop-b.invariant.1 ∙ stays m w.if-not-step.false)
    ]
