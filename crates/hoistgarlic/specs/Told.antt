-- The answers of the calls in numbers: 0 for an accepted answer, or the number of the refusal.
use Rattle.std.specs.Prelude.{ℕ, ◌≡◌, Float, Option, Some, None, Result, Ok, Err}
use Rattle.definitions.specs.declared.Refusal.{Refusal}
use Rattle.definitions.specs.declared.Fit.{Fit}
use Rattle.definitions.specs.declared.AnswerCounts.{AnswerCounts}
use Rattle.definitions.specs.Refusal.{number, Verdict}
use Rattle.definitions.specs.Real.{zero_f}

-- a verdict
abbrev pub number_of : Verdict → ℕ
number_of (Ok u) = 0
number_of (Err r) = number r

-- the number of a verdict that keeps a promise
pub record AsNumber (Promise : Verdict → Type 0) (k : ℕ) : Type 0 where
  pub verdict : Verdict
  pub promise : Promise verdict
  pub number : k ≡ number_of verdict

-- a match: its number, the place of the offset, the distance; at a miss the place behind the last, 125
abbrev pub match_number : Result (Option Fit) Refusal → ℕ
match_number (Ok m) = 0
match_number (Err r) = number r

abbrev pub match_place : Result (Option Fit) Refusal → ℕ
match_place (Ok (Some fit)) = fit.place
match_place (Ok None) = 125
match_place (Err r) = 0

abbrev pub match_distance : Result (Option Fit) Refusal → Float
match_distance (Ok (Some fit)) = fit.distance
match_distance (Ok None) = zero_f
match_distance (Err r) = zero_f

-- the numbers of a match that keeps a promise
pub record MatchTold (Promise : Result (Option Fit) Refusal → Type 0) (k place : ℕ) (distance : Float) : Type 0 where
  pub matching : Result (Option Fit) Refusal
  pub promise : Promise matching
  pub number : k ≡ match_number matching
  pub offset : place ≡ match_place matching
  pub length : distance ≡ match_distance matching

-- the whole call: its number, and the header's two counts, 0 after a refusal
abbrev pub whole_number : Result AnswerCounts Refusal → ℕ
whole_number (Ok c) = 0
whole_number (Err r) = number r

abbrev pub whole_sites : Result AnswerCounts Refusal → ℕ
whole_sites (Ok c) = c.sites
whole_sites (Err r) = 0

abbrev pub whole_orbits : Result AnswerCounts Refusal → ℕ
whole_orbits (Ok c) = c.orbits
whole_orbits (Err r) = 0

-- the numbers of a whole call that keeps a promise
pub record WholeTold (Promise : Result AnswerCounts Refusal → Type 0) (k n m : ℕ) : Type 0 where
  pub standardized : Result AnswerCounts Refusal
  pub promise : Promise standardized
  pub number : k ≡ whole_number standardized
  pub sites : n ≡ whole_sites standardized
  pub orbits : m ≡ whole_orbits standardized
