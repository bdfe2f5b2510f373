use Rattle.std.proofs.Common.{◌≡◌, true, false, drop, sym, ◌∙◌, rules, tests, arith}
use Rattle.std.proofs.lemmas.List.{take_all, length-drop}
use Rattle.std.proofs.lemmas.Iterator.{IsFirst-from_position, YieldsList-from_slice, YieldsList-from_zip}
use Rattle.dialogue.proofs.Pairs.{two_newlines, empty_from}
use Rattle.dialogue.proofs.parts.empty_line.Goals as goal

pub returns : goal.returns
returns c =
    let bs = c.args.input.now in
    let all = YieldsList-from_zip {s = c.zip.result} (YieldsList-from_slice bs cc) (YieldsList-from_slice (drop 1 bs) (c.zip.ensures.second.0 ∙ take_all _ (drop 1 bs) (omega (arith, length-drop 1 bs)))) in
    let p = IsFirst-from_position c.position.new.self _ c.position.result (λ w. two_newlines w ≡ true) (λ w. two_newlines w ≡ false) c.position.ensures.ran all (λ x q k. search (rules, tests)) (λ x q k. search (rules, tests)) in
    empty_from bs c.position.result c.map_or.result (sym c.starts_with.ensures.value ∙ c.if-starts_with.false) p (search rules)
