use Rattle.std.proofs.Common.{◌≡◌, ◌++◌, string_bytes}
use Rattle.std.specs.Slice.Iter.{split_inclusive_rest}
use Rattle.network.specs.Held.{sealed_net}
use Rattle.dialogue.specs.Parts.{lines_of}
use Rattle.dialogue.specs.Responses.{replies}
use Rattle.dialogue.proofs.response.reply_all.Given as goal

-- the text so far, with the replies to come, is the whole
abbrev pub invariant-loop-line : goal.invariant-loop-line
invariant-loop-line l = string_bytes l.text ++ replies (sealed_net l.network) (lines_of (split_inclusive_rest l.line-iterator)) ≡ replies (sealed_net l.network) (lines_of l.commands)
