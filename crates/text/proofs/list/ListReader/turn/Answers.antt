use Rattle.std.proofs.Common.{true, ◌∷◌, refl, ap, ◌∙◌}
use Rattle.std.proofs.lemmas.Result.{err_from_is_err_and}
use Rattle.text.specs.declared.token.Kind.TheVariants.{Open}
use Rattle.text.specs.Grammar.{mark, form}
use Rattle.text.specs.Reads.{pass, formed, form_slots}
use Rattle.text.proofs.list.ListReader.turn.Goals as goal

pub returns-in_err-line-clause-lists : goal.returns-in_err-line-clause-lists
returns-in_err-line-clause-lists c =
    let p = err_from_is_err_and c.from_residual-in_err-line.result c.from_residual-in_err-line.ensures.1 in
    let a = rw c.self.view_is at c.in_ok-mark.ensures.reads in
    let b = c.in_ok-more.ensures.lists in
    let e = c.in_err-line.ensures.lists in
    rw (p.1, p.2) (record {
      same = e.same ∙ b.same ∙ a.same;
      reads = λ d ss k. a.reads d (form ∷ ss) ∙ b.reads d ss k ∙ ap (λ m. pass (formed d m) (form_slots m ss) c.form.new.self) c.if-more.true ∙ e.reads (formed d true) (mark Open ∷ form ∷ ss) (k, refl);
    })

pub returns-in_ok-line-clause-lists : goal.returns-in_ok-line-clause-lists
returns-in_ok-line-clause-lists c =
    let a = rw c.self.view_is at c.in_ok-mark.ensures.reads in
    let b = c.in_ok-more.ensures.lists in
    let e = c.in_ok-line.ensures.lists in
    record {
      same = e.same ∙ b.same ∙ a.same;
      reads = λ d ss k. a.reads d (form ∷ ss) ∙ b.reads d ss k ∙ ap (λ m. pass (formed d m) (form_slots m ss) c.form.new.self) c.if-more.true ∙ e.reads (formed d true) (mark Open ∷ form ∷ ss) (k, refl);
    }
