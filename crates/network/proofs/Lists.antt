-- Tests over a list of lines: its first lines alone.
use Rattle.std.proofs.Common.{◌≡◌, ℕ, Bool, true, List, take}
use Rattle.std.proofs.lemmas.List.Elements.{All-take}
use Rattle.std.proofs.lemmas.List.Sums.{AllPass-from_list_all, list_all-from_AllPass}
use Rattle.std.specs.List.{list_all}
use Rattle.network.specs.declared.line.Line.{Line}
use Rattle.network.specs.Net.{ends_below, all_below, in_range, all_in_range}

-- what each line of a list passes, each of its first lines passes
passes_take : (test : Line → Bool) (count : ℕ) (ls : List Line) → list_all test ls ≡ true → list_all test (take count ls) ≡ true
passes_take test count ls p = list_all-from_AllPass test (take count ls) (All-take (λ l. test l ≡ true) count ls (AllPass-from_list_all test ls p))

pub below_take : (n count : ℕ) (ls : List Line) → all_below n ls ≡ true → all_below n (take count ls) ≡ true
below_take n count ls p = passes_take (ends_below n) count ls p

pub in_range_take : (least count : ℕ) (ls : List Line) → all_in_range least ls ≡ true → all_in_range least (take count ls) ≡ true
in_range_take least count ls p = passes_take (λ x. in_range least x.terms) count ls p
