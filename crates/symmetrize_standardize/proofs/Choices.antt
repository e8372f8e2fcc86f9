-- The candidates with their spaces, read off the lists of their fields.
use Prim.Native.Nat.{ℕ, ◌<◌}
use mathlib.Core.Path.{◌≡◌, sym, ap, ◌∙◌}
use mathlib.Core.List.{List, [], map}
use native.Mathlib.Omega.{arith}
use lib.ListN.{length, get_or, take, length-map}
use lib.Seq.{ext_get_or, take_all}
use lib.Ieee.{nan}
use Rattle.definitions.specs.Lists.{up_to}
use Rattle.definitions.specs.Real.{origin}
use Rattle.definitions.specs.Lent.{cells_of, zero_cells, zero_matrix}
use Rattle.definitions.specs.Lent.{candidates_from}
use Rattle.definitions.specs.Wyckoff.{Space, Choice, choices}
use Rattle.definitions.specs.SiteCalls.{SpaceCells, HoldsSpaces, AssignArguments, choice_at}
use Rattle.data_wyckoff.specs.Spaces.{lists}
use Rattle.data_wyckoff.specs.declared.space.Space as code
use Rattle.laws.specs.Lists.{map_at, up_to_at, below_up_to, length-up_from}
use Rattle.symmetrize_standardize.proofs.Together.{length-choices, choice_at_lem}
use Rattle.symmetrize_standardize.proofs.Parts.{front_of}

-- the tables of these spaces and nothing behind them
abbrev pub tables_of : List Space → SpaceCells
tables_of ss =
    record {
      matrices = map (λ s. s.matrix) ss;
      shifts = map (λ s. cells_of s.shift) ss;
      ds = map (λ s. s.snf.d) ss;
      ls = map (λ s. s.snf.l) ss;
      rs = map (λ s. s.snf.r) ss;
    }

abbrev pub fronts : ℕ → SpaceCells → SpaceCells
fronts n e =
    record {
      matrices = take n e.matrices;
      shifts = take n e.shifts;
      ds = take n e.ds;
      ls = take n e.ls;
      rs = take n e.rs;
    }

pub fronts_are : (n : ℕ) (entry exit : SpaceCells) (ss : List Space) → length ss ≡ n → HoldsSpaces entry exit ss → fronts n exit ≡ tables_of ss
fronts_are n entry exit ss e h = λ i.
    record {
      matrices = front_of zero_matrix (map (λ (s : Space). s.matrix) ss) exit.matrices (length entry.matrices) n h.matrices (length-map ss (λ (s : Space). s.matrix) ∙ e) i;
      shifts = front_of zero_cells (map (λ (s : Space). cells_of s.shift) ss) exit.shifts (length entry.shifts) n h.shifts (length-map ss (λ (s : Space). cells_of s.shift) ∙ e) i;
      ds = front_of zero_matrix (map (λ (s : Space). s.snf.d) ss) exit.ds (length entry.ds) n h.ds (length-map ss (λ (s : Space). s.snf.d) ∙ e) i;
      ls = front_of zero_matrix (map (λ (s : Space). s.snf.l) ss) exit.ls (length entry.ls) n h.ls (length-map ss (λ (s : Space). s.snf.l) ∙ e) i;
      rs = front_of zero_matrix (map (λ (s : Space). s.snf.r) ss) exit.rs (length entry.rs) n h.rs (length-map ss (λ (s : Space). s.snf.r) ∙ e) i;
    }

-- a list of so many, read to the end of each list of fields
module _ (l : List code.Space) (n : ℕ) (e : length l ≡ n) where
  all-of : {A : Type 0} (f : code.Space → A) → map f l ≡ take n (map f l)
  all-of f = sym (take_all n (map f l) (omega (arith, length-map l f, e)))

  pub fronts_of_all : lists l ≡ fronts n (lists l)
  fronts_of_all = λ i.
      record {
        matrices = all-of (λ s. s.matrix) i;
        shifts = all-of (λ s. s.shift) i;
        ds = all-of (λ s. s.d) i;
        ls = all-of (λ s. s.l) i;
        rs = all-of (λ s. s.r) i;
      }

abbrev nowhere : Space
nowhere = record { matrix = []; shift = origin; snf = record { d = []; l = []; r = [] } }

abbrev nothing : Choice
nothing = record { multiplicity = 0; letter = 0; space = nowhere }

module _ (x : AssignArguments) (ts : List (List ℕ)) (ss : List Space) (tables : x.spaces ≡ tables_of ss)
    (e : length x.candidates ≡ length ts) (f : length x.letters ≡ length ts) (g : length ss ≡ length ts) where
  space_at : (i : ℕ) → i < length ss → (choice_at x i).space ≡ get_or ss i nowhere
  space_at i h =
      ap (λ (s : SpaceCells). (choice_at (record { labels = x.labels; multiplicities = x.multiplicities; positions = x.positions; basis = x.basis; symprec = x.symprec; candidates = x.candidates; letters = x.letters; spaces = s }) i).space) tables
      ∙ (λ k.
      record {
        matrix = map_at (λ (s : Space). s.matrix) ss i nowhere [] h k;
        shift =
            record {
              x = ap (λ v. get_or v 0 nan) (map_at (λ (s : Space). cells_of s.shift) ss i nowhere [] h) k;
              y = ap (λ v. get_or v 1 nan) (map_at (λ (s : Space). cells_of s.shift) ss i nowhere [] h) k;
              z = ap (λ v. get_or v 2 nan) (map_at (λ (s : Space). cells_of s.shift) ss i nowhere [] h) k;
            };
        snf =
            record {
              d = map_at (λ (s : Space). s.snf.d) ss i nowhere [] h k;
              l = map_at (λ (s : Space). s.snf.l) ss i nowhere [] h k;
              r = map_at (λ (s : Space). s.snf.r) ss i nowhere [] h k;
            };
      })

  pub choices_are : map (choice_at x) (up_to (length x.candidates)) ≡ choices (candidates_from x.candidates x.letters ts) ss
  choices_are = ext_get_or nothing _ _ (long ∙ sym (length-choices x.candidates x.letters ts ss e f g)) at
    where
      long : length (map (choice_at x) (up_to (length x.candidates))) ≡ length ts
      long = length-map (up_to (length x.candidates)) (choice_at x) ∙ length-up_from 0 (length x.candidates) ∙ e

      at :
          (i : ℕ) → i < length (map (choice_at x) (up_to (length x.candidates))) →
          get_or (map (choice_at x) (up_to (length x.candidates))) i nothing ≡ get_or (choices (candidates_from x.candidates x.letters ts) ss) i nothing
      at i h =
          let below : i < length x.candidates = omega (arith, long) in
          let of-spaces : i < length ss = omega (arith, long) in
          let of_texts : i < length ts = omega (arith, long) in
          map_at (choice_at x) (up_to (length x.candidates)) i 0 nothing (below_up_to (length x.candidates) i below)
          ∙ ap (choice_at x) (up_to_at (length x.candidates) i below)
          ∙ (λ k. record { multiplicity = get_or x.candidates i 0; letter = get_or x.letters i 0; space = space_at i of-spaces k })
          ∙ sym (choice_at_lem x.candidates x.letters ts ss e f g i of_texts nothing nowhere)
