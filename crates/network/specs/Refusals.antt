-- Refusals by their numbers, and the questions that a call must pass.
use Rattle.std.specs.Prelude.{ℕ, Bool, cond, List, [], ◌∷◌, Ok, Err, Result}
use Rattle.network.specs.declared.refusal.Refusal.{Refusal}
use Rattle.network.specs.declared.refusal.Refusal.TheVariants.{OutOfRange, NoSuchEnd, TooManyLines, BadMargin, BadWeight, BadBound, BadStart, NoSuchPoint, SamePoint, BadChannels, BadLimit, ShortClosures, ShortTable, BookFull, NumbersSpent, NoRun, NotStanding, NoSuchLine, NoSuchPlace, NoColumn}

-- The number of each refusal. 15 is not used.
abbrev pub number_of : Refusal → ℕ
number_of OutOfRange = 4
number_of NoSuchEnd = 5
number_of TooManyLines = 6
number_of BadMargin = 7
number_of BadWeight = 8
number_of BadBound = 9
number_of BadStart = 10
number_of NoSuchPoint = 11
number_of SamePoint = 12
number_of BadChannels = 13
number_of BadLimit = 14
number_of ShortClosures = 16
number_of ShortTable = 17
number_of BookFull = 18
number_of NumbersSpent = 19
number_of NoRun = 20
number_of NotStanding = 21
number_of NoSuchLine = 22
number_of NoSuchPlace = 23
number_of NoColumn = 24

-- A result with its refusal as a number.
abbrev pub numbered : {A : Type 0} → Result A Refusal → Result A ℕ
numbered (Ok a) = Ok a
numbered (Err e) = Err (number_of e)

-- A question that a call must pass: the number that a "no" gives, and whether the answer is "yes".
pub record Question : Type 0 where
  pub number : ℕ
  pub yes : Bool

abbrev pub asks : ℕ → Bool → Question
asks n b = record { number = n; yes = b }

-- The first question with a "no" gives its number; where there is none, the call goes through with `a`.
abbrev pub judged : {A : Type 0} → List Question → A → Result A ℕ
judged [] a = Ok a
judged (q ∷ qs) a = cond q.yes (judged qs a) (Err q.number)

-- What a call answers that makes a new state or refuses.
abbrev pub answered : {A E : Type 0} → Result A E → Result (Unit {0}) E
answered (Ok a) = Ok tt
answered (Err e) = Err e

-- What it leaves: the new state, or after a refusal the old one.
abbrev pub left_by : {A E : Type 0} → A → Result A E → A
left_by old (Ok new) = new
left_by old (Err e) = old

-- A result with what its value means.
abbrev pub with_value : {A B E : Type 0} → (A → B) → Result A E → Result B E
with_value f (Ok a) = Ok (f a)
with_value f (Err e) = Err e
