use Rattle.network.specs.Held.{drawn, sealed_net}
use Rattle.text.specs.Listing.{fault_of}
use Rattle.dialogue.proofs.Lines.{response_ok, response_err}
use Rattle.dialogue.proofs.response.respond.Goals as goal

pub returns-in-Ok : goal.returns-in-Ok
returns-in-Ok c =
    let h = c.in-Ok.ensures in
    let p = c.list_and_commands.ensures in
    let e = response_ok c.args.input.now _ _ (drawn c.in_ok-draft.draft) p.list p.commands c.in_ok-draft.ensures (drawn c.read_list.new.draft) (sealed_net c.seal.result) h.answer h.after c.seal.ensures.same in
    rw e c.reply_all.ensures

pub returns-in-Err : goal.returns-in-Err
returns-in-Err c =
    let p = c.list_and_commands.ensures in
    let e = response_err c.args.input.now _ _ (drawn c.in_ok-draft.draft) p.list p.commands c.in_ok-draft.ensures (fault_of c.in-Err.fault) c.in-Err.ensures.answer in
    rw e c.fault_line.ensures
