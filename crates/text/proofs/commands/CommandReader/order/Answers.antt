use Rattle.std.proofs.Common.{true, false}
use Rattle.text.proofs.Spoken.{spoken_after}
use Rattle.text.proofs.commands.CommandReader.order.Goals as goal

pub returns-then-fastest : goal.returns-then-fastest
returns-then-fastest c =
    let h = rw (c.self.view_is, c.if-fastest.true) at c.in_ok-fastest.ensures in
    record { spoken = spoken_after c.args.self.now c.either.new.self c.fastest.new.self true c.in_ok-fastest.field-0-1 c.fastest.result h c.fastest.ensures.reads c.fastest.ensures.verb }

pub returns-else-fastest : goal.returns-else-fastest
returns-else-fastest c =
    let h = rw (c.self.view_is, c.if-fastest.false) at c.in_ok-fastest.ensures in
    record { spoken = spoken_after c.args.self.now c.either.new.self c.widest.new.self false c.in_ok-fastest.field-0-1 c.widest.result h c.widest.ensures.reads c.widest.ensures.verb }
