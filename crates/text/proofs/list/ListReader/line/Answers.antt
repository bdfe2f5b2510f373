use Rattle.std.proofs.Common.{List, ◌∷◌, ap, ◌∙◌}
use Rattle.std.proofs.lemmas.Result.{err_from_is_err_and}
use Rattle.text.specs.declared.token.Kind.TheVariants.{Close}
use Rattle.text.specs.Grammar.{Slot, mark, done, lined}
use Rattle.text.specs.Reads.{pass, terms_slots, ends_seen, terms_seen}
use Rattle.text.proofs.Slots.{line_got}
use Rattle.text.proofs.list.ListReader.line.Goals as goal

-- what follows the six inner parts
abbrev closing : List Slot → List Slot
closing ss = mark Close ∷ done ∷ ss

pub returns-in_err-terms-clause-lists : goal.returns-in_err-terms-clause-lists
returns-in_err-terms-clause-lists c =
    let p = err_from_is_err_and c.from_residual-in_err-terms.result c.from_residual-in_err-terms.ensures.1 in
    let a = c.in_ok-from.ensures.lists in
    let b = c.in_err-terms.ensures.reads in
    rw (p.1, p.2) (record { same = b.same ∙ a.same; reads = λ d ss k. a.reads d (terms_slots (closing ss)) k.0 ∙ b.reads _ (closing ss) })

pub returns-in_err-mark-clause-lists : goal.returns-in_err-mark-clause-lists
returns-in_err-mark-clause-lists c =
    let p = err_from_is_err_and c.from_residual-in_err-mark.result c.from_residual-in_err-mark.ensures.1 in
    let a = c.in_ok-from.ensures.lists in
    let b = c.in_ok-terms.ensures.reads in
    let e = rw c.self.view_is at c.in_err-mark.ensures.reads in
    rw (p.1, p.2) (record { same = e.same ∙ b.same ∙ a.same; reads = λ d ss k. a.reads d (terms_slots (closing ss)) k.0 ∙ b.reads _ (closing ss) ∙ e.reads _ (done ∷ ss) })

pub returns-in_err-done-clause-lists : goal.returns-in_err-done-clause-lists
returns-in_err-done-clause-lists c =
    let p = err_from_is_err_and c.from_residual-in_err-done.result c.from_residual-in_err-done.ensures.1 in
    let a = c.in_ok-from.ensures.lists in
    let b = c.in_ok-terms.ensures.reads in
    let e = rw c.self.view_is at c.in_ok-mark.ensures.reads in
    let f = c.in_err-done.ensures.reads in
    rw (p.1, p.2) (record { same = f.same ∙ e.same ∙ b.same ∙ a.same; reads = λ d ss k. a.reads d (terms_slots (closing ss)) k.0 ∙ b.reads _ (closing ss) ∙ e.reads _ (done ∷ ss) ∙ f.reads _ ss })

pub returns-clause-lists : goal.returns-clause-lists
returns-clause-lists c =
    let a = c.in_ok-from.ensures.lists in
    let b = c.in_ok-terms.ensures.reads in
    let e = rw c.self.view_is at c.in_ok-mark.ensures.reads in
    let f = c.in_ok-done.ensures.reads in
    record {
      same = f.same ∙ e.same ∙ b.same ∙ a.same;
      reads = λ d ss k.
          a.reads d (terms_slots (closing ss)) k.0 ∙ b.reads _ (closing ss) ∙ e.reads _ (done ∷ ss) ∙ f.reads _ ss
          ∙ ap (λ l. pass (lined (terms_seen (ends_seen d (c.in_ok-from.from, c.in_ok-from.to)) c.in_ok-terms.terms) l) ss c.done.new.self) (line_got d _ k.1);
    }
