-- What the console answers to commands, as text.
use Rattle.std.specs.Prelude.{ℕ, List, ◌++◌, replicate, Ok, Err, codes, decimal, Result}
use Rattle.network.specs.Net.{Net}
use Rattle.network.specs.declared.refusal.Refusal.{Refusal}
use Rattle.network.specs.Refusals.{number_of}
use Rattle.sweep.specs.Values.{fastest_of, widest_of}
use Rattle.text.specs.declared.commands.Command.{Command}
use Rattle.text.specs.declared.commands.Command.TheVariants.{Fastest, Widest}
use Rattle.text.specs.Commands.{commanded}
use Rattle.text.specs.Listing.{Fault, fault_of, fault_text}
use Rattle.dialogue.specs.declared.reply.Answer.{Answer}
use Rattle.dialogue.specs.declared.reply.Answer.TheVariants.{Fastest as fast, Widest as wide}
use Rattle.dialogue.specs.declared.reply.Unanswered.{Unanswered}
use Rattle.dialogue.specs.declared.reply.Unanswered.TheVariants.{Refused, Fault as faulty}

-- A number after a word, in brackets.
abbrev pub said : List ℕ → ℕ → List ℕ
said word n = word ++ (decimal n ++ codes ")")

abbrev pub refused_text : ℕ → List ℕ
refused_text n = said (codes "(refused ") n

-- How an answer is printed.
abbrev pub answer_text : Answer → List ℕ
answer_text (fast v) = said (codes "(fastest ") v
answer_text (wide v) = said (codes "(widest ") v

-- How it is printed that there is none.
abbrev pub unanswered_text : Unanswered → List ℕ
unanswered_text (Refused e) = refused_text (number_of e)
unanswered_text (faulty f) = fault_text (fault_of f)

-- How a reply is printed.
abbrev pub reply_text : Result Answer Unanswered → List ℕ
reply_text (Ok a) = answer_text a
reply_text (Err u) = unanswered_text u

-- How it is printed what came of a command that was read.
abbrev pub outcome_text : Result Answer Refusal → List ℕ
outcome_text (Ok a) = answer_text a
outcome_text (Err e) = refused_text (number_of e)

-- The closure list of the console: every line is open.
abbrev pub no_closures : List ℕ
no_closures = replicate 512 0

-- A value or a refusal, as text.
abbrev pub value_text : List ℕ → Result ℕ ℕ → List ℕ
value_text word (Ok v) = said word v
value_text word (Err n) = refused_text n

-- The answer to a command over a network. A sweep's table has 64 places.
abbrev pub executed : Net → Command → List ℕ
executed net (Fastest s t g) = value_text (codes "(fastest ") (fastest_of net no_closures s t g 64)
executed net (Widest s t) = value_text (codes "(widest ") (widest_of net no_closures s t 64)

-- The answer to a line, which is a command or has a fault.
abbrev pub replied_to : Net → Result Command Fault → List ℕ
replied_to net (Ok x) = executed net x
replied_to net (Err f) = fault_text f

abbrev pub replied : Net → List ℕ → List ℕ
replied net line = replied_to net (commanded line)
