use Rattle.std.proofs.Common.{Ok, Err, sym, ap, ◌∙◌}
use Rattle.std.proofs.lemmas.Result.{err_from_is_err_and}
use Rattle.text.specs.Listing.{faulted}
use Rattle.text.proofs.Cuts.{cuts}
use Rattle.text.proofs.Spoken.{told_command, told_fault, earliest}
use Rattle.text.proofs.commands.read_command.Goals as goal

pub returns-in_err-whole : goal.returns-in_err-whole
returns-in_err-whole c =
    let r = c.from_residual-in_err-whole.result in
    let p = err_from_is_err_and r c.from_residual-in_err-whole.ensures.1 in
    let w = rw c.new.ensures at c.in_err-whole.ensures in
    let q = ap faulted (p.1 ∙ ap Err p.2) ∙ sym (told_fault c.args.text.now c.in_err-whole.field-0.0 c.in_ok-sized.ensures w) in
    record { answer = q; earliest = earliest c.args.text.now r q; tokens = cuts 0 c.args.text.now }

pub returns : goal.returns
returns c =
    let w = rw c.new.ensures at c.in_ok-whole.ensures in
    let q = sym (told_command c.args.text.now c.in_ok-whole.field-0 c.in_ok-sized.ensures w) in
    record { answer = q; earliest = earliest c.args.text.now (Ok c.in_ok-whole.field-0) q; tokens = cuts 0 c.args.text.now }
