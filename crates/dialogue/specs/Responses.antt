-- The whole response to an input.
use Rattle.std.specs.Prelude.{ℕ, List, [], ◌∷◌, ◌++◌, Ok, Err, codes, Result}
use Rattle.network.specs.Drafts.{new_draft}
use Rattle.network.specs.Net.{Net}
use Rattle.text.specs.Listing.{Fault, fault_text, reading}
use Rattle.dialogue.specs.Parts.{list_part, command_part, lines_of}
use Rattle.dialogue.specs.Replies.{replied}

-- The replies to lines of commands, each on a line of its own.
abbrev pub replies : Net → List (List ℕ) → List ℕ
replies net [] = []
replies net (line ∷ lines) = (replied net line ++ codes "\n") ++ replies net lines

-- The response where the list was read, or has a fault.
abbrev pub responded : Result Net Fault → List ℕ → List ℕ
responded (Ok net) commands = replies net (lines_of commands)
responded (Err f) commands = fault_text f ++ codes "\n"

-- All that the console prints for an input.
abbrev pub response : List ℕ → List ℕ
response input = responded (reading new_draft (list_part input)) (command_part input)
