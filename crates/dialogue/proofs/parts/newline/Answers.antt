use Rattle.std.proofs.Common.{◌≡◌, suc, true, false, cond, eqb, refl, sym, ap, ◌∙◌, rules, tests, arith}
use Rattle.std.proofs.lemmas.Iterator.{IsFirst-from_position, YieldsList-from_slice, index_from_first}
use Rattle.dialogue.specs.Parts.{first_newline}
use Rattle.dialogue.proofs.parts.newline.Goals as goal

pub returns : goal.returns
returns c =
    let bs = c.args.bytes.now in
    let found = IsFirst-from_position _ _ _ (λ b. eqb b 10 ≡ true) (λ b. eqb b 10 ≡ false) c.position.ensures.ran (YieldsList-from_slice bs cc) (λ x q k. search (rules, tests)) (λ x q k. search (rules, tests)) in
    c.unwrap_or.ensures
    ∙ sym (index_from_first first_newline (λ b. eqb b 10 ≡ true) (λ b. eqb b 10 ≡ false) refl (λ x xs h. ap (λ v. cond v 0 (suc (first_newline xs))) h) (λ x xs h. ap (λ v. cond v 0 (suc (first_newline xs))) h ∙ omega arith) bs _ found)
