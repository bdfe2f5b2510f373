-- What a draft takes, and what it refuses.
use Rattle.std.specs.Prelude.{ℕ, ◌&&◌, List, [], ◌∷◌, ◌++◌, length, take, Result, nat_le, nat_lt}
use Rattle.network.specs.declared.line.Line.{Line}
use Rattle.network.specs.Net.{Net, in_range, all_below}
use Rattle.network.specs.Refusals.{Question, asks, judged}

-- A new draft has 2 points and no line.
abbrev pub new_draft : Net
new_draft = record { points = 2; lines = [] }

-- The questions that n points must pass: 2 to 64, and above each end of the lines held.
abbrev pub points_questions : Net → ℕ → List Question
points_questions d n = asks 4 (nat_le 2 n && nat_le n 64) ∷ (asks 5 (all_below n d.lines) ∷ [])

-- The question that an end of a line must pass.
abbrev pub end_question : Net → ℕ → List Question
end_question d v = asks 5 (nat_lt v d.points) ∷ []

-- The question that one line more must pass.
abbrev pub more_question : Net → List Question
more_question d = asks 6 (nat_lt (length d.lines) 512) ∷ []

-- The questions that a line must pass: its numbers in range with room for 1 channel, then its ends, then its place.
abbrev pub line_questions : Net → Line → List Question
line_questions d l = asks 4 (in_range 1 l.terms) ∷ (end_question d l.from ++ (end_question d l.to ++ more_question d))

-- The draft with n points, or the refusal.
abbrev pub points_taken : Net → ℕ → Result Net ℕ
points_taken d n = judged (points_questions d n) (record { points = n; lines = d.lines })

-- The draft with one line more at its end, or the refusal.
abbrev pub line_taken : Net → Line → Result Net ℕ
line_taken d l = judged (line_questions d l) (record { points = d.points; lines = d.lines ++ (l ∷ []) })

-- The draft with its first lines alone.
abbrev pub first_kept : Net → ℕ → Net
first_kept d count = record { points = d.points; lines = take count d.lines }
