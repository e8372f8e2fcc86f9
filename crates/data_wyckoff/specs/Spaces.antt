-- What the parts of the calls that prepare candidates promise: one candidate, and the first ones of a list.
use Rattle.std.specs.Prelude.{ℕ, ◌≤◌, ◌≡◌, cond, List, ◌∷◌, [], ◌++◌, map, leb, length, drop, Ok, Err}
use Rattle.definitions.specs.declared.Refusal.{Refusal}
use Rattle.definitions.specs.Lent.{cells_of, zero_cells, zero_matrix}
use Rattle.definitions.specs.Lists.{Some}
use Rattle.definitions.specs.Refusal.{Condition, ◌when◌, coordinates, diagonalisation, number, Verdict, Checked}
use Rattle.definitions.specs.SiteCalls.{prepare_all_conditions, SpaceCells, space_from, space_rooms}
use Rattle.definitions.specs.Standardize.{BadCoordinates, TextLeaves}
use Rattle.definitions.specs.Wyckoff.{Space, AreSpaces}
use Rattle.data_wyckoff.specs.declared.space.Space as code

-- ---- one candidate

-- the code's space as the definition's
abbrev pub space_of : code.Space → Space
space_of s = space_from s.matrix s.shift (record { d = s.d; l = s.l; r = s.r })

-- the definition's as the code's
abbrev pub cells_of_space : Space → code.Space
cells_of_space s =
    record { matrix = s.matrix; shift = cells_of s.shift; d = s.snf.d; l = s.snf.l; r = s.snf.r }

abbrev pub zero_space : code.Space
zero_space =
    record { matrix = zero_matrix; shift = zero_cells; d = zero_matrix; l = zero_matrix; r = zero_matrix }

-- ---- a list of candidates

-- the fields of the spaces, a list each
abbrev pub lists : List code.Space → SpaceCells
lists ss =
    record {
      matrices = map (λ s. s.matrix) ss;
      shifts = map (λ s. s.shift) ss;
      ds = map (λ s. s.d) ss;
      ls = map (λ s. s.l) ss;
      rs = map (λ s. s.r) ss;
    }

-- with a refusal of one candidate behind the verdict on others: "The lowest number that applies is returned"
abbrev pub first_of : Verdict → Refusal → Refusal
first_of (Ok u) k = k
first_of (Err j) k = cond (leb (number j) (number k)) j k

-- what the candidates alone decide: 6, 8
abbrev pub texts_conditions : List (List ℕ) → List Condition
texts_conditions texts = (coordinates when BadCoordinates texts) ∷ (diagonalisation when Some TextLeaves texts) ∷ []

-- the spaces of the texts at the front of a list, where it is so long
pub record Stored (texts : List (List ℕ)) (entry exit : List code.Space) : Type 0 where
  pub spaces : List Space
  pub count : length spaces ≡ length texts
  pub right : AreSpaces texts spaces
  pub front : length texts ≤ length entry → exit ≡ map cells_of_space spaces ++ drop (length texts) entry

-- The first refusal of any of the texts; where there is none, the space of each is stored.
pub record PutSpaces (texts : List (List ℕ)) (entry exit : List code.Space) (v : Verdict) : Type 0 where
  pub long : length exit ≡ length entry
  pub checked : Checked (texts_conditions texts) v
  pub stored : v ≡ (Ok tt) → Stored texts entry exit

-- The verdict of the call, and what it leaves to be cleared.
pub record Judged (texts : List (List ℕ)) (entry exit : List code.Space) (v : Verdict) : Type 0 where
  pub long : length exit ≡ length entry
  pub checked : Checked (prepare_all_conditions texts (space_rooms (lists entry))) v
  pub room : v ≡ (Ok tt) → length texts ≤ length entry
  pub stored : v ≡ (Ok tt) → Stored texts entry exit
