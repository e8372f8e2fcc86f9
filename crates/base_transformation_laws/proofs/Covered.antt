-- Every run of the diagonalisation of a C with a determinant has what `Smith` asks, so its points cover every
-- translation once.
use Rattle.std.specs.Prelude.{ℕ, ◌<◌, ◌≡◌, length, get_or, ℤ, pos, [], ◌∷◌}
use Rattle.std.proofs.Common.{arith, lit<}
use Rattle.definitions.specs.Matrix.{Matrix, at, mat}
use Rattle.definitions.specs.Snf.{Run, points}
use Rattle.definitions.specs.Cell.{listed_points}
use Rattle.definitions.specs.Demand.{ExactlyOne, DifferByWhole, Covers}
use Rattle.definitions.specs.Limits.{copies}
use Rattle.math_matrix.specs.Laws.{Three}
use Rattle.math_snf_laws.specs.Runs.{lmr, left_unit, right_unit, diagonal, factor as factor-of}
use Rattle.base_transformation_laws.specs.Smith.{Smith, factor, diagonal_of}
use Rattle.base_transformation_laws.proofs.Points.{points-count, point_covers, covers}

module _ {c : Matrix} (shape : Three c) (regular : 0 < copies c) (r : Run c) where
  smith : Smith c r.third
  smith = record { lcr = lmr r shape; left = left_unit r shape; right = right_unit r shape; diagonal = even; regular = regular }
    where
      zero : (i j : ℕ) → i < 3 → j < 3 → (i ≡ j → ⊥) → at r.third.d i j ≡ pos 0
      zero = diagonal r

      even : mat (at r.third.d) ≡ diagonal_of (λ i. pos (factor r.third i))
      even = λ k.
          (factor-of r 0 (lit< tt) k ∷ zero 0 1 (lit< tt) (lit< tt) (λ e. omega arith) k ∷ zero 0 2 (lit< tt) (lit< tt) (λ e. omega arith) k ∷ [])
          ∷ (zero 1 0 (lit< tt) (lit< tt) (λ e. omega arith) k ∷ factor-of r 1 (lit< tt) k ∷ zero 1 2 (lit< tt) (lit< tt) (λ e. omega arith) k ∷ [])
          ∷ (zero 2 0 (lit< tt) (lit< tt) (λ e. omega arith) k ∷ zero 2 1 (lit< tt) (lit< tt) (λ e. omega arith) k ∷ factor-of r 2 (lit< tt) k ∷ [])
          ∷ []

  -- as many points as |det C|
  pub run-points-count : length (points r.third) ≡ copies c
  run-points-count = points-count smith

  -- "exactly one .. has a point that differs from the translation by whole conventional vectors"
  pub run_point_covers : (a b e : ℤ) → ExactlyOne (copies c) (λ k. DifferByWhole c (a ∷ b ∷ e ∷ []) (get_or (points r.third) k []))
  run_point_covers = point_covers smith

  -- for each of n sites
  pub run_covers : (n : ℕ) → Covers c n (listed_points n (points r.third))
  run_covers = covers smith
