use Rattle.std.proofs.Common.{◌≡◌, [], Some, None, sym, ap, ◌∙◌, rules}
use Rattle.std.proofs.lemmas.Result.{err_from_is_err_and}
use Rattle.network.specs.Held.{drawn}
use Rattle.text.specs.Grammar.{with_line}
use Rattle.text.specs.Reads.{pass, turn_seen, turn_slots, turned}
use Rattle.text.proofs.Growing.{line_from_some, none_from_not_some, took, grown_more}
use Rattle.text.proofs.list.ListReader.lines.Goals as goal

pub returns-in_err-turn-clause-many : goal.returns-in_err-turn-clause-many
returns-in_err-turn-clause-many c =
    let p = err_from_is_err_and c.from_residual.result c.from_residual.ensures.1 in
    let a = c.in_err-turn.ensures.lists in
    rw (p.1, p.2) (record { same = a.same ∙ c.loop.invariant.0; reads = λ s k. let e = c.loop.invariant.2 s k in e.1 ∙ a.reads e.0 [] e.2 })

pub loop-preserved : goal.loop-preserved
loop-preserved c =
    let a = c.in_ok-turn.ensures in
    let was = drawn c.args.draft.now in
    let d = drawn c.loop.draft in
    let is = drawn c.turn.new.draft in
    let o = line_from_some c.in_ok-turn.field-0 (search rules) in
    let e = took d is _ o.0 a.draft o.1 in (
      a.lists.same ∙ c.loop.invariant.0,
      grown_more was d is o.0 c.loop.invariant.1 e,
      λ s k. let f = c.loop.invariant.2 s k in (turn_seen f.0 (Some o.0), f.1 ∙ a.lists.reads f.0 [] f.2 ∙ ap (λ x. pass (turn_seen f.0 x) (turn_slots x []) c.turn.new.self) o.1, ap (λ n. with_line n o.0) f.2 ∙ sym e),
    )

pub returns-clause-many : goal.returns-clause-many
returns-clause-many c =
    let a = c.in_ok-turn.ensures in
    let o = none_from_not_some c.in_ok-turn.field-0 (search rules) in
    let same : drawn c.turn.new.draft ≡ drawn c.loop.draft = a.draft ∙ ap (turned (drawn c.loop.draft)) o in
    record {
      same = a.lists.same ∙ c.loop.invariant.0;
      reads = λ s k. let f = c.loop.invariant.2 s k in (turn_seen f.0 None, f.1 ∙ a.lists.reads f.0 [] f.2 ∙ ap (λ x. pass (turn_seen f.0 x) (turn_slots x []) c.turn.new.self) o, f.2 ∙ sym same);
    }
