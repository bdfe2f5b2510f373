use Rattle.std.proofs.Common.{ℕ, List, ◌∷◌, ◌++◌, eqb, string_bytes, rules, refl, sym, ap, ◌∙◌}
use Rattle.std.proofs.lemmas.List.Sorted.{answers_always}
use Rattle.std.specs.Slice.Iter.{split_inclusive_rest}
use Rattle.network.specs.Held.{sealed_net}
use Rattle.dialogue.specs.Parts.{lines_of}
use Rattle.dialogue.specs.Responses.{replies}
use Rattle.dialogue.proofs.Lines.{replies_more}
use Rattle.dialogue.proofs.Pieces.{lines_cut}
use Rattle.dialogue.proofs.response.reply_all.Goals as goal

pub loop-line-preserved : goal.loop-line-preserved
loop-line-preserved c =
    let net = sealed_net c.args.network.now in
    let bs = split_inclusive_rest c.loop-line.line-iterator in
    let more = split_inclusive_rest c.next.new.self in
    let (cuts, at, filled) = c.in-Some.ensures.steps in
    let first = at.2 (λ b. eqb b 10) (answers_always _ _ _ (λ f a r g h. search rules)) in
    let lines = lines_cut bs c.in-Some.line.now more at.0 filled cuts at.1 first.1 c.strip_suffix.result c.in-Some.line refl c.strip_suffix.ensures.cases in
    let line = lines ∙ ap (λ k. k.now ∷ lines_of more) (sym c.unwrap_or-line.ensures) in
    ap (λ (x : List ℕ). x ++ replies net (lines_of more)) c.in_ok-reply_line.ensures
    ∙ replies_more net (string_bytes c.loop-line.text) c.unwrap_or-line.result.now more bs _ line c.loop-line.invariant
