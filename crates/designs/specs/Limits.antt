-- Each limit of document 01 at its value and one past it. One table of tests, and one proof over it.
use Rattle.std.specs.Prelude.{ℕ, suc, ◌<◌, ◌≡◌, Bool, not, ◌&&◌, List, [], ◌∷◌, length, T, ℤ, pos, negsuc, Float}
use Rattle.std.proofs.Common.{lt_irrefl, subst, inl, ⊎_elim, arith}
use Rattle.std.specs.Float.Ieee.{of_bits, to_bits, round, size, odd, of_fields, lt, le, eq, units, span, climb, of_int}
use Rattle.std.specs.Int.Count.{count_trailing_zeros}
use Rattle.definitions.specs.declared.Position.{Position}
use Rattle.definitions.specs.Lists.{all}
use Rattle.definitions.specs.Matrix.{Matrix}
use Rattle.definitions.specs.Job.{Parts, IsJob, NoJob, float}
use Rattle.definitions.specs.Limits.{most_bytes, too_many_sites, not_some, too_many_candidates, in_range, in_range_of_c, lattice_within}
use Rattle.definitions.specs.Limits.{position_within, good_symprec, not_unimodular, bad_copies, small, too_many_listed, shorter_than}

-- the value passes, and one past it does not
abbrev edge : {A : Type 0} → (A → Bool) → A → A → Bool
edge passes value past = passes value && not (passes past)

abbrev diag : ℤ → ℤ → ℤ → Matrix
diag a b c = (a ∷ pos 0 ∷ pos 0 ∷ []) ∷ (pos 0 ∷ b ∷ pos 0 ∷ []) ∷ (pos 0 ∷ pos 0 ∷ c ∷ []) ∷ []

-- an entry behind the diagonal
abbrev behind : ℤ → Matrix
behind e = (pos 1 ∷ pos 0 ∷ pos 0 ∷ []) ∷ (pos 0 ∷ pos 1 ∷ pos 0 ∷ []) ∷ (pos 0 ∷ e ∷ pos 1 ∷ []) ∷ []

abbrev edges : List Bool
edges =
    edge (λ n. not (too_many_sites n)) 256 257
    ∷ edge (λ n. not (not_some n)) 1 0
    ∷ edge (λ n. not (not_some n)) 96 97
    ∷ edge (λ n. not (too_many_candidates n)) 64 65
    ∷ edge in_range (behind (pos 31)) (behind (pos 32))
    ∷ edge in_range (behind (negsuc 30)) (behind (negsuc 31))
    ∷ edge in_range_of_c (behind (pos 31)) (behind (pos 32))
    ∷ edge in_range_of_c (behind (negsuc 30)) (behind (negsuc 31))
    ∷ edge lattice_within (cells (float 0x412E848000000000)) (cells (float 0x412E848000000001))
    ∷ edge lattice_within (cells (float 0xC12E848000000000)) (cells (float 0xC12E848000000001))
    ∷ edge position_within (place (float 0x408F400000000000)) (place (float 0x408F400000000001))
    ∷ edge position_within (place (float 0xC08F400000000000)) (place (float 0xC08F400000000001))
    ∷ edge position_within (place (float 0x8000000000000000)) (place (float 0x7FF0000000000000))
    ∷ edge position_within (place (float 0)) (place (float 0x7FF8000000000000))
    ∷ edge good_symprec (float 0x1) (float 0)
    ∷ edge good_symprec (float 0x408F400000000000) (float 0x408F400000000001)
    ∷ edge (λ t. not (not_unimodular t)) (diag (pos 1) (pos 1) (pos 1)) (diag (pos 2) (pos 1) (pos 1))
    ∷ edge (λ t. not (not_unimodular t)) (diag (negsuc 0) (pos 1) (pos 1)) (diag (pos 0) (pos 1) (pos 1))
    ∷ edge (λ c. not (bad_copies c)) (diag (pos 8) (pos 8) (pos 1)) (diag (pos 13) (pos 5) (pos 1))
    ∷ edge (λ c. not (bad_copies c)) (diag (negsuc 0) (pos 1) (pos 1)) (diag (pos 0) (pos 1) (pos 1))
    ∷ edge small (pos 511) (pos 512)
    ∷ edge small (negsuc 510) (negsuc 511)
    ∷ edge (λ n. not (too_many_listed n)) 1024 1025
    ∷ edge (λ room. not (shorter_than 4 room)) 4 3
    ∷ []
  where
    cells : Float → List (List Float)
    cells v = (float 0 ∷ float 0 ∷ float 0 ∷ []) ∷ (float 0 ∷ float 0 ∷ float 0 ∷ []) ∷ (float 0 ∷ float 0 ∷ v ∷ []) ∷ []

    place : Float → Position
    place v = record { x = float 0; y = float 0; z = v }

pub each-edge : T (all (λ b. b) edges)
unfolding all of_bits to_bits round size odd of_fields lt le eq units span climb of_int count_trailing_zeros
each-edge = tt

-- 65,537 bytes are no job; a job of 65,536 bytes is one
pub over-bytes : (bs : List ℕ) → length bs ≡ suc most_bytes → NoJob bs
over-bytes bs e = inl (omega arith)

pub most-bytes-pass : (bs : List ℕ) (p : Parts) → length bs ≡ most_bytes → IsJob bs p → NoJob bs → ⊥
most-bytes-pass bs p e i n = ⊎_elim (λ h. lt_irrefl most_bytes (subst (λ k. most_bytes < k) e h)) (λ f. f p i) n
