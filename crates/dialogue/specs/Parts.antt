-- How an input is parted: a list, an empty line, and commands, one on each line.
use Rattle.std.specs.Prelude.{ℕ, suc, ◌+◌, Bool, true, cond, ◌&&◌, List, [], ◌∷◌, ◌++◌, take, drop, ◌==◌}

-- The place of the first empty line, or the length where there is none: a newline at the very beginning or right after
-- another. `fresh` says whether a line begins here.
abbrev pub parting : Bool → List ℕ → ℕ
parting fresh [] = 0
parting fresh (b ∷ bs) = cond (fresh && b == 10) 0 (suc (parting (b == 10) bs))

-- What stands before the empty line, and what stands after it.
abbrev pub list_part : List ℕ → List ℕ
list_part input = take (parting true input) input

abbrev pub command_part : List ℕ → List ℕ
command_part input = drop (parting true input + 1) input

-- The lines of a text, each without its newline; what follows the last newline, if anything does, is a line too.
-- `so_far` is the line that has begun.
abbrev pub lines_from : List ℕ → List ℕ → List (List ℕ)
lines_from [] [] = []
lines_from (x ∷ xs) [] = (x ∷ xs) ∷ []
lines_from so_far (b ∷ bs) = cond (b == 10) (so_far ∷ lines_from [] bs) (lines_from (so_far ++ b ∷ []) bs)

abbrev pub lines_of : List ℕ → List (List ℕ)
lines_of bytes = lines_from [] bytes

-- The place of the first newline, or the length where there is none.
abbrev pub first_newline : List ℕ → ℕ
first_newline [] = 0
first_newline (b ∷ bs) = cond (b == 10) 0 (suc (first_newline bs))

-- The first line, without its newline, and what follows it.
abbrev pub first_line : List ℕ → List ℕ
first_line bytes = take (first_newline bytes) bytes

abbrev pub after_line : List ℕ → List ℕ
after_line bytes = drop (first_newline bytes + 1) bytes
