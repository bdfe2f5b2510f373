use Rattle.std.proofs.Common.{[], ◌∷◌, ◌∙◌}
use Rattle.std.proofs.lemmas.Result.{err_from_is_err_and}
use Rattle.network.specs.Held.{drawn}
use Rattle.text.specs.declared.token.Kind.TheVariants.{Open}
use Rattle.text.specs.Grammar.{pointed, mark, form}
use Rattle.text.proofs.Growing.{pointed_net}
use Rattle.text.proofs.list.ListReader.list.Goals as goal

pub returns-in_err-finish-clause-whole : goal.returns-in_err-finish-clause-whole
returns-in_err-finish-clause-whole c =
    let p = err_from_is_err_and c.from_residual-in_err-finish.result c.from_residual-in_err-finish.ensures.1 in
    let a = c.in_ok-points.ensures in
    let n = c.in_ok-points.field-0 in
    let b = c.in_ok-lines.ensures.many in
    let e = rw c.self.view_is at c.in_err-finish.ensures.ends.reads in
    rw (p.1, p.2) (λ s k. let q = b.reads (pointed s n) (pointed_net s (drawn c.args.draft.now) (drawn c.points.new.draft) n k a.points a.held) in a.lists.reads s (mark Open ∷ form ∷ []) k ∙ q.1 ∙ e q.0)

pub returns-clause-whole : goal.returns-clause-whole
returns-clause-whole c =
    let a = c.in_ok-points.ensures in
    let n = c.in_ok-points.field-0 in
    let b = c.in_ok-lines.ensures.many in
    let e = rw c.self.view_is at c.in_ok-finish.ensures.ends.reads in
    λ s k. let q = b.reads (pointed s n) (pointed_net s (drawn c.args.draft.now) (drawn c.points.new.draft) n k a.points a.held) in (q.0, a.lists.reads s (mark Open ∷ form ∷ []) k ∙ q.1 ∙ e q.0, q.2)
