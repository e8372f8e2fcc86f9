-- Lists that belong together, as the parts of a job: where their lengths agree nothing of them is lost.
use Prim.Native.Nat.{ℕ, zero, suc, ◌<◌}
use mathlib.Core.Path.{◌≡◌, refl, ap}
use mathlib.Core.Bool.{Bool, true, false}
use mathlib.Core.List.{List, [], ◌∷◌, map}
use native.Mathlib.Omega.{arith}
use native.Mathlib.Nat.{not-suc-le-zero, le_of_suc-le-suc}
use lib.ListN.{length, get_or}
use lib.IntN.{ℤ}
use lib.Ieee.{Float}
use Rattle.definitions.specs.declared.Position.{Position}
use Rattle.definitions.specs.Lists.{all}
use Rattle.definitions.specs.Matrix.{Matrix}
use Rattle.definitions.specs.Lent.{position_from, sites_from, operations_from, candidates_from}
use Rattle.definitions.specs.Wyckoff.{Space, AreSpaces, Choice, texts_of, choices}

-- ---- lengths

less : {a b : ℕ} → suc a ≡ suc b → a ≡ b
less h = omega arith

apart : {A : Type 0} (a : ℕ) → 0 ≡ suc a → A
apart a h = absurd (omega arith)

apart' : {A : Type 0} (a : ℕ) → suc a ≡ 0 → A
apart' a h = absurd (omega arith)

-- a test of the parts, element by element
abbrev rest_if : Bool → Bool → Bool
rest_if b r = elim b as (λ (x : Bool). Bool) [ true ↦ r | false ↦ false ]

all_same : (b : Bool) {r s : Bool} → r ≡ s → rest_if b r ≡ rest_if b s
all_same b e = ap (rest_if b) e

-- ---- elements and positions

pub length-sites : (es : List ℤ) (ps : List (List Float)) → length es ≡ length ps → length (sites_from es ps) ≡ length ps
unfolding sites_from
length-sites [] [] e = refl
length-sites [] (p ∷ ps) e = apart (length ps) e
length-sites (a ∷ es) [] e = refl
length-sites (a ∷ es) (p ∷ ps) e = ap suc (length-sites es ps (less e))

pub elements_of : (es : List ℤ) (ps : List (List Float)) → length es ≡ length ps → map (λ s. s.element) (sites_from es ps) ≡ es
unfolding sites_from
elements_of [] ps e = refl
elements_of (a ∷ es) [] e = apart' (length es) e
elements_of (a ∷ es) (p ∷ ps) e = ap (λ l. a ∷ l) (elements_of es ps (less e))

module _ (f : Position → Position) where
  pub positions_of :
      (es : List ℤ) (ps : List (List Float)) → length es ≡ length ps →
      map (λ s. f s.position) (sites_from es ps) ≡ map (λ v. f (position_from v)) ps
  unfolding sites_from
  positions_of [] [] e = refl
  positions_of [] (p ∷ ps) e = apart (length ps) e
  positions_of (a ∷ es) [] e = refl
  positions_of (a ∷ es) (p ∷ ps) e = ap (λ l. f (position_from p) ∷ l) (positions_of es ps (less e))

module _ (t : Position → Bool) where
  pub all-sites :
      (es : List ℤ) (ps : List (List Float)) → length es ≡ length ps →
      all (λ s. t s.position) (sites_from es ps) ≡ all (λ v. t (position_from v)) ps
  unfolding sites_from all
  all-sites [] [] e = refl
  all-sites [] (p ∷ ps) e = apart (length ps) e
  all-sites (a ∷ es) [] e = refl
  all-sites (a ∷ es) (p ∷ ps) e = all_same (t (position_from p)) (all-sites es ps (less e))

  -- ---- rotations and translations

  pub all_translations :
      (ms : List Matrix) (vs : List (List Float)) → length vs ≡ length ms →
      all (λ o. t o.translation) (operations_from ms vs) ≡ all (λ v. t (position_from v)) vs
  unfolding operations_from all
  all_translations [] [] e = refl
  all_translations [] (v ∷ vs) e = apart' (length vs) e
  all_translations (m ∷ ms) [] e = refl
  all_translations (m ∷ ms) (v ∷ vs) e = all_same (t (position_from v)) (all_translations ms vs (less e))

pub length_operations : (ms : List Matrix) (vs : List (List Float)) → length vs ≡ length ms → length (operations_from ms vs) ≡ length ms
unfolding operations_from
length_operations [] vs e = refl
length_operations (m ∷ ms) [] e = apart (length ms) e
length_operations (m ∷ ms) (v ∷ vs) e = ap suc (length_operations ms vs (less e))

pub rotations_of_lem : (ms : List Matrix) (vs : List (List Float)) → length vs ≡ length ms → map (λ o. o.rotation) (operations_from ms vs) ≡ ms
unfolding operations_from
rotations_of_lem [] vs e = refl
rotations_of_lem (m ∷ ms) [] e = apart (length ms) e
rotations_of_lem (m ∷ ms) (v ∷ vs) e = ap (λ l. m ∷ l) (rotations_of_lem ms vs (less e))

pub all_rotations :
    (t : Matrix → Bool) (ms : List Matrix) (vs : List (List Float)) → length vs ≡ length ms →
    all (λ o. t o.rotation) (operations_from ms vs) ≡ all t ms
unfolding operations_from all
all_rotations t [] vs e = refl
all_rotations t (m ∷ ms) [] e = apart (length ms) e
all_rotations t (m ∷ ms) (v ∷ vs) e = all_same (t m) (all_rotations t ms vs (less e))

-- ---- candidates

pub length-candidates :
    (ms ls : List ℕ) (ts : List (List ℕ)) → length ms ≡ length ts → length ls ≡ length ts → length (candidates_from ms ls ts) ≡ length ts
unfolding candidates_from
length-candidates [] ls [] e f = refl
length-candidates [] ls (t ∷ ts) e f = apart (length ts) e
length-candidates (m ∷ ms) [] [] e f = refl
length-candidates (m ∷ ms) [] (t ∷ ts) e f = apart (length ts) f
length-candidates (m ∷ ms) (l ∷ ls) [] e f = refl
length-candidates (m ∷ ms) (l ∷ ls) (t ∷ ts) e f = ap suc (length-candidates ms ls ts (less e) (less f))

pub texts_of_lem : (ms ls : List ℕ) (ts : List (List ℕ)) → length ms ≡ length ts → length ls ≡ length ts → texts_of (candidates_from ms ls ts) ≡ ts
unfolding candidates_from
texts_of_lem [] ls [] e f = refl
texts_of_lem [] ls (t ∷ ts) e f = apart (length ts) e
texts_of_lem (m ∷ ms) [] [] e f = refl
texts_of_lem (m ∷ ms) [] (t ∷ ts) e f = apart (length ts) f
texts_of_lem (m ∷ ms) (l ∷ ls) [] e f = refl
texts_of_lem (m ∷ ms) (l ∷ ls) (t ∷ ts) e f = ap (λ r. t ∷ r) (texts_of_lem ms ls ts (less e) (less f))

-- a space for each text
pub length-spaces : (ts : List (List ℕ)) (ss : List Space) → AreSpaces ts ss → length ss ≡ length ts
unfolding AreSpaces
length-spaces [] [] a = refl
length-spaces [] (s ∷ ss) a = absurd a
length-spaces (t ∷ ts) [] a = absurd a
length-spaces (t ∷ ts) (s ∷ ss) a = ap suc (length-spaces ts ss a.1)

-- each candidate with its space, by its place
pub length-choices :
    (ms ls : List ℕ) (ts : List (List ℕ)) (ss : List Space) → length ms ≡ length ts → length ls ≡ length ts → length ss ≡ length ts →
    length (choices (candidates_from ms ls ts) ss) ≡ length ts
unfolding candidates_from choices
length-choices [] ls [] ss e f g = refl
length-choices [] ls (t ∷ ts) ss e f g = apart (length ts) e
length-choices (m ∷ ms) [] [] ss e f g = refl
length-choices (m ∷ ms) [] (t ∷ ts) ss e f g = apart (length ts) f
length-choices (m ∷ ms) (l ∷ ls) [] ss e f g = refl
length-choices (m ∷ ms) (l ∷ ls) (t ∷ ts) [] e f g = apart (length ts) g
length-choices (m ∷ ms) (l ∷ ls) (t ∷ ts) (s ∷ ss) e f g = ap suc (length-choices ms ls ts ss (less e) (less f) (less g))

pub choice_at_lem :
    (ms ls : List ℕ) (ts : List (List ℕ)) (ss : List Space) → length ms ≡ length ts → length ls ≡ length ts → length ss ≡ length ts →
    (i : ℕ) → i < length ts → (d : Choice) (z : Space) →
    get_or (choices (candidates_from ms ls ts) ss) i d ≡ record { multiplicity = get_or ms i 0; letter = get_or ls i 0; space = get_or ss i z }
unfolding candidates_from choices
choice_at_lem ms ls [] ss e f g i h d z = absurd (not-suc-le-zero h)
choice_at_lem [] ls (t ∷ ts) ss e f g i h d z = apart (length ts) e
choice_at_lem (m ∷ ms) [] (t ∷ ts) ss e f g i h d z = apart (length ts) f
choice_at_lem (m ∷ ms) (l ∷ ls) (t ∷ ts) [] e f g i h d z = apart (length ts) g
choice_at_lem (m ∷ ms) (l ∷ ls) (t ∷ ts) (s ∷ ss) e f g zero h d z = refl
choice_at_lem (m ∷ ms) (l ∷ ls) (t ∷ ts) (s ∷ ss) e f g (suc i) h d z =
    choice_at_lem ms ls ts ss (less e) (less f) (less g) i (le_of_suc-le-suc h) d z
