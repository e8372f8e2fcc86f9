-- The spaces of candidates in lent lists are those of the design, and so are its sites.
use Prim.Native.Nat.{ℕ, zero, suc, ◌<◌}
use mathlib.Core.Path.{◌≡◌, refl, sym, ap, ◌∙◌, subst}
use mathlib.Core.Bool.{false}
use mathlib.Core.List.{List, [], ◌∷◌, map}
use native.Mathlib.Nat.{not-suc-le-zero, le_of_suc-le-suc}
use native.Mathlib.Omega.{arith}
use lib.ListN.{length, get_or, length-map}
use lib.Seq.{ext_get_or}
use Rattle.definitions.specs.Lent.{cells_of, position_from, candidates_from}
use Rattle.definitions.specs.Lists.{up_to}
use Rattle.definitions.specs.Orbit.{Labels, multiplicities}
use Rattle.definitions.specs.Real.{origin}
use Rattle.definitions.specs.Wyckoff.{Space, AreSpaces, Choice, choices, Found, sites_of}
use Rattle.definitions.specs.SiteCalls.{LetterArguments, permutations_in, candidates_in, design_from, bad_letter_counts}
use Rattle.definitions.specs.SiteCalls.{choice_at, space_from, sites_in}
use Rattle.laws.specs.Lists.{map_at, length-up_from, up_to_at}
use Rattle.symmetrize_wyckoff.specs.Spaces.{alike_texts}
use Rattle.symmetrize_wyckoff.specs.Lettering.{assign_by, cells_of_spaces, placed_by}

pub length-spaces : (ts : List (List ℕ)) (ss : List Space) → AreSpaces ts ss → length ss ≡ length ts
unfolding AreSpaces
length-spaces [] [] a = refl
length-spaces [] (s ∷ ss) a = absurd a
length-spaces (t ∷ ts) [] a = absurd a
length-spaces (t ∷ ts) (s ∷ ss) a = ap suc (length-spaces ts ss a.1)

no_space : Space
no_space = record { matrix = []; shift = origin; snf = record { d = []; l = []; r = [] } }

no_choice : Choice
no_choice = record { multiplicity = 0; letter = 0; space = no_space }

less : {a b : ℕ} → suc a ≡ suc b → a ≡ b
less h = omega arith

length-choices :
    (n : ℕ) (ms ls : List ℕ) (ts : List (List ℕ)) (ss : List Space) → length ms ≡ n → length ls ≡ n → length ts ≡ n →
    length ss ≡ n →
    length (choices (candidates_from ms ls ts) ss) ≡ n
unfolding choices candidates_from
length-choices zero [] ls ts ss a b c d = refl
length-choices zero (m ∷ ms) ls ts ss a b c d = absurd (omega arith)
length-choices (suc n) [] ls ts ss a b c d = absurd (omega arith)
length-choices (suc n) (m ∷ ms) [] ts ss a b c d = absurd (omega arith)
length-choices (suc n) (m ∷ ms) (l ∷ ls) [] ss a b c d = absurd (omega arith)
length-choices (suc n) (m ∷ ms) (l ∷ ls) (t ∷ ts) [] a b c d = absurd (omega arith)
length-choices (suc n) (m ∷ ms) (l ∷ ls) (t ∷ ts) (s ∷ ss) a b c d =
    ap suc (length-choices n ms ls ts ss (less a) (less b) (less c) (less d))

choices_at :
    (n : ℕ) (ms ls : List ℕ) (ts : List (List ℕ)) (ss : List Space) → length ms ≡ n → length ls ≡ n → length ts ≡ n →
    length ss ≡ n →
    (k : ℕ) → k < n →
    get_or (choices (candidates_from ms ls ts) ss) k no_choice
    ≡ record { multiplicity = get_or ms k 0; letter = get_or ls k 0; space = get_or ss k no_space }
unfolding choices candidates_from
choices_at zero ms ls ts ss a b c d k h = absurd (not-suc-le-zero h)
choices_at (suc n) [] ls ts ss a b c d k h = absurd (omega arith)
choices_at (suc n) (m ∷ ms) [] ts ss a b c d k h = absurd (omega arith)
choices_at (suc n) (m ∷ ms) (l ∷ ls) [] ss a b c d k h = absurd (omega arith)
choices_at (suc n) (m ∷ ms) (l ∷ ls) (t ∷ ts) [] a b c d k h = absurd (omega arith)
choices_at (suc n) (m ∷ ms) (l ∷ ls) (t ∷ ts) (s ∷ ss) a b c d zero h = refl
choices_at (suc n) (m ∷ ms) (l ∷ ls) (t ∷ ts) (s ∷ ss) a b c d (suc k) h =
    choices_at n ms ls ts ss (less a) (less b) (less c) (less d) k (le_of_suc-le-suc h)

-- ---- the sites of the design

module _ (x : LetterArguments) (ss : List Space) (right : AreSpaces x.texts ss) (counts : bad_letter_counts x ≡ false)
    (ms : length x.multiplicities ≡ length x.texts) (ls : length x.letters ≡ length x.texts) where
  space_at :
      (k : ℕ) → k < length ss →
      space_from (get_or (map (λ (s : Space). s.matrix) ss) k []) (get_or (map (λ (s : Space). cells_of s.shift) ss) k [])
      (record {
        d = get_or (map (λ (s : Space). s.snf.d) ss) k [];
        l = get_or (map (λ (s : Space). s.snf.l) ss) k [];
        r = get_or (map (λ (s : Space). s.snf.r) ss) k [];
      })
      ≡ get_or ss k no_space
  space_at k h = λ i.
      space_from (map_at (λ (s : Space). s.matrix) ss k no_space [] h i)
      (map_at (λ (s : Space). cells_of s.shift) ss k no_space [] h i)
      (record {
        d = map_at (λ (s : Space). s.snf.d) ss k no_space [] h i;
        l = map_at (λ (s : Space). s.snf.l) ss k no_space [] h i;
        r = map_at (λ (s : Space). s.snf.r) ss k no_space [] h i;
      })

  choices_are :
      (labels : List ℕ) →
      map (choice_at (assign_by (placed_by x (cells_of_spaces ss)) labels)) (up_to (length x.multiplicities))
      ≡ choices (candidates_in x) ss
  choices_are labels =
      ext_get_or no_choice (map f (up_to (length x.multiplicities))) (choices (candidates_in x) ss) (long ∙ sym all) same
    where
      f : ℕ → Choice
      f = choice_at (assign_by (placed_by x (cells_of_spaces ss)) labels)

      count : length ss ≡ length x.multiplicities
      count = length-spaces x.texts ss right ∙ sym ms

      long : length (map f (up_to (length x.multiplicities))) ≡ length x.multiplicities
      long = length-map (up_to (length x.multiplicities)) f ∙ length-up_from 0 (length x.multiplicities)

      all : length (choices (candidates_in x) ss) ≡ length x.multiplicities
      all =
          length-choices (length x.multiplicities) x.multiplicities x.letters x.texts ss refl (ls ∙ sym ms)
          (sym ms) count

      same :
          (k : ℕ) → k < length (map f (up_to (length x.multiplicities))) →
          get_or (map f (up_to (length x.multiplicities))) k no_choice ≡ get_or (choices (candidates_in x) ss) k no_choice
      same k h =
          let b : k < length x.multiplicities = omega (arith, long) in
          map_at f (up_to (length x.multiplicities)) k 0 no_choice
          (omega (arith, length-up_from 0 (length x.multiplicities)))
          ∙ ap f (up_to_at (length x.multiplicities) k b)
          ∙ ap (λ (s : Space). record
          { multiplicity = get_or x.multiplicities k 0; letter = get_or x.letters k 0; space = s })
          (space_at k (omega (arith, count)))
          ∙ sym (choices_at (length x.multiplicities) x.multiplicities x.letters x.texts ss refl
          (ls ∙ sym ms) (sym ms) count k b)

  module _ (labels : List ℕ) (are : Labels (permutations_in x.labelling) x.labelling.mapping labels) where
    abbrev pub found_design : Found (design_from x)
    found_design =
        record {
          spaces = ss;
          are_spaces = subst (λ ts. AreSpaces ts ss) (sym (alike_texts x counts)) right;
          labels = labels;
          are_labels = are;
        }

    pub sites_are : sites_in (assign_by (placed_by x (cells_of_spaces ss)) labels) ≡ sites_of found_design
    sites_are = λ i.
        record {
          positions = map position_from x.positions;
          labels = labels;
          multiplicities = multiplicities labels;
          basis = x.basis;
          choices = choices_are labels i;
          symprec = x.symprec;
        }
