use Rattle.std.proofs.Common.{[], ◌∷◌, ◌∙◌}
use Rattle.std.proofs.lemmas.Result.{err_from_is_err_and}
use Rattle.text.specs.Grammar.{command}
use Rattle.text.proofs.commands.CommandReader.whole.Goals as goal

pub returns-in_err-end : goal.returns-in_err-end
returns-in_err-end c =
    let p = err_from_is_err_and c.from_residual-in_err-end.result c.from_residual-in_err-end.ensures.1 in
    let a = rw c.self.view_is at c.in_ok-mark.ensures.reads in
    let b = c.in_ok-command.ensures.spoken in
    let e = rw c.self-2.view_is at c.in_err-end.ensures.ends.reads in
    rw (p.1, p.2) (λ s. let q = b.reads s [] in a.reads s (command ∷ []) ∙ q.1 ∙ e q.0)

pub returns : goal.returns
returns c =
    let a = rw c.self.view_is at c.in_ok-mark.ensures.reads in
    let b = c.in_ok-command.ensures.spoken in
    let e = rw c.self-2.view_is at c.in_ok-end.ensures.ends.reads in
    λ s. let q = b.reads s [] in (q.0, a.reads s (command ∷ []) ∙ q.1 ∙ e q.0, q.2)
