-- What the calls of this crate ask, answer and leave.
use Rattle.std.specs.Prelude.{◌≡◌, ℕ, ◌<◌, ◌≤◌, Bool, true, not, ◌&&◌, List, [], ◌∷◌, ◌++◌, length, drop, Some, None, Ok, Err, Option, Result, ◌==◌, nat_le, nat_lt, slice_index, slice_index_or}
use Rattle.network.specs.Net.{Net, line_at}
use Rattle.network.specs.Refusals.{Question, asks, judged, left_by}
use Rattle.runs.specs.Graphs.{Graph, seen_at, graph_of, open_marks}
use Rattle.sweep.specs.Laws.{Ops, delay_ops, room_ops}
use Rattle.sweep.specs.Best.{BestAt, best_table}

-- The questions that a sweep from s into a table of so many places must pass.
abbrev pub sweep_questions : Graph → ℕ → ℕ → List Question
sweep_questions graph s places = asks 11 (nat_lt s graph.points) ∷ (asks 17 (nat_le graph.points places) ∷ [])

-- The table after a sweep from s: the best values, and the places from the point count on as they were.
abbrev pub swept_table : {V : Type 0} → Ops V → Graph → List Bool → ℕ → List (Option V) → List (Option V)
swept_table ops graph marks s table = best_table ops graph marks s ++ drop graph.points table

-- The questions that two points must pass: both are below the point count, and they differ.
abbrev pub end_questions : Net → ℕ → ℕ → List Question
end_questions net s t = asks 11 (nat_lt s net.points && nat_lt t net.points) ∷ (asks 12 (not (s == t)) ∷ [])

-- The question that a number of channels must pass.
abbrev pub channel_question : ℕ → List Question
channel_question g = asks 13 (nat_le 1 g && nat_le g 1000) ∷ []

-- The questions that a closure list and a table of so many places must pass.
abbrev pub place_questions : Net → List ℕ → ℕ → List Question
place_questions net closures places = asks 16 (nat_le (length net.lines) (length closures)) ∷ (asks 17 (nat_le net.points places) ∷ [])

-- The questions of `fastest`, in their order, before it asks whether there is a run.
abbrev pub fastest_questions : Net → List ℕ → ℕ → ℕ → ℕ → ℕ → List Question
fastest_questions net closures s t g places = end_questions net s t ++ (channel_question g ++ place_questions net closures places)

-- The questions of `widest`, in their order, before it asks whether there is a run.
abbrev pub widest_questions : Net → List ℕ → ℕ → ℕ → ℕ → List Question
widest_questions net closures s t places = end_questions net s t ++ place_questions net closures places

-- Whether every question has a "yes".
abbrev pub all_yes : List Question → Bool
all_yes [] = true
all_yes (q ∷ qs) = q.yes && all_yes qs

-- The best values from s over the lines that are open for g channels.
abbrev pub open_table : {V : Type 0} → Ops V → Net → List ℕ → ℕ → ℕ → List (Option V)
open_table ops net closures g s = best_table ops (graph_of net closures g) (open_marks (graph_of net closures g)) s

-- The table after a call with these questions: filled from s where they pass, and else as it was.
abbrev pub table_after : {V : Type 0} → Ops V → List Question → Net → List ℕ → ℕ → ℕ → List (Option V) → List (Option V)
table_after ops questions net closures g s table = left_by table (judged questions (open_table ops net closures g s ++ drop net.points table))

-- The value found, or 20 where there is no run.
abbrev pub or_no_run : {V : Type 0} → Result (Option V) ℕ → Result V ℕ
or_no_run (Ok (Some x)) = Ok x
or_no_run (Ok None) = Err 20
or_no_run (Err e) = Err e

-- What `fastest` answers with a table of so many places.
abbrev pub fastest_of : Net → List ℕ → ℕ → ℕ → ℕ → ℕ → Result ℕ ℕ
fastest_of net closures s t g places = or_no_run (judged (fastest_questions net closures s t g places) (slice_index_or (open_table delay_ops net closures g s) t None))

-- What `widest` answers with a table of so many places.
abbrev pub widest_of : Net → List ℕ → ℕ → ℕ → ℕ → Result ℕ ℕ
widest_of net closures s t places = or_no_run (judged (widest_questions net closures s t places) (slice_index_or (open_table room_ops net closures 1 s) t None))

-- Line k is open for g channels: there is one with that number, its closure byte is 0, and it has room for g.
abbrev pub OpenLine : Net → List ℕ → ℕ → ℕ → Type 0
OpenLine net closures g k = (k < length net.lines) × (slice_index closures k ≡ 0) × (g ≤ (line_at net k).terms.room)

-- What an answer says of the runs from s to t over lines open for g channels, where the questions pass:
-- a value is that of a run and no worse than that of every run, and 20 says that there is no run.
abbrev pub Says : {V : Type 0} → Ops V → Net → List ℕ → ℕ → ℕ → ℕ → Result V ℕ → Type 0
Says ops net closures g s t (Ok x) = BestAt ops (seen_at net closures g) (OpenLine net closures g) s t (Some x)
Says ops net closures g s t (Err e) = (e ≡ 20) × BestAt ops (seen_at net closures g) (OpenLine net closures g) s t None
