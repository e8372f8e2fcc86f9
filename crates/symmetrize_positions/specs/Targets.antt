-- The displacements of a site under lent targets, and the counts with which they are defined.
use Rattle.std.specs.Prelude.{ℕ, ◌*◌, ◌≤◌, ◌<◌, ◌≡◌, true, List, [], map, length, get_or, drop, pos, Float}
use Rattle.std.specs.Float.{binary64}
use Rattle.std.specs.Float.Ieee.{div}
use Rattle.definitions.specs.declared.Position.{Position}
use Rattle.definitions.specs.Matrix.{Matrix}
use Rattle.definitions.specs.Real.{RealMatrix, real, real_of, apply_f, add_p, sub_p, map_p, sum_p}
use Rattle.definitions.specs.Permutation.{is_permutation, permutation_at, inverse_image}
use Rattle.definitions.specs.Symmetrization.{off_round, displacements, symmetrized_at}
use Rattle.definitions.specs.Lent.{operations_from, permutations_of, position_from, cells_of}

-- n positions, k rotations, v translations, m images
pub record Counted (n k v m : ℕ) : Type 0 where
  pub sites : n ≤ 256
  pub targets : k ≤ 96
  pub translations : v ≡ k
  pub images : m ≡ k * n

abbrev pub displacements_at : List Position → List Matrix → List (List Float) → List ℕ → ℕ → List Position
displacements_at ps gs vs images i = displacements ps (operations_from gs vs) (permutations_of (length ps) (length gs) images) i

-- each part of the images, n entries each, is a permutation
abbrev pub Permuted : ℕ → ℕ → List ℕ → Type 0
Permuted n k images = (o : ℕ) → o < k → is_permutation n (permutation_at n images o) ≡ true

-- how far m and t take site j from site i, without whole vectors
abbrev pub shifted : RealMatrix → Position → List (List Float) → ℕ → ℕ → Position
shifted m t ps j i = map_p off_round (sub_p (add_p (apply_f m (position_from (get_or ps j []))) t) (position_from (get_or ps i [])))

-- site i's sum v with the addend of target k
abbrev pub more : List (List Float) → List Matrix → List (List Float) → List ℕ → ℕ → ℕ → List Float → List Float
more ps gs vs images k i v =
    let j = inverse_image (permutation_at (length ps) images k) i in
    cells_of (add_p (position_from v) (shifted (real (get_or gs k [])) (position_from (get_or vs k [])) ps j i))

-- site i's sum over all targets
abbrev pub total : List (List Float) → List Matrix → List (List Float) → List ℕ → ℕ → List Float → List Float
total ps gs vs images i v = cells_of (sum_p (displacements_at (map position_from ps) gs vs images i))

-- position i with the mean of k addends, whose sum is v
abbrev pub mean : List (List Float) → ℕ → ℕ → List Float → List Float
mean ps k i v = cells_of (add_p (position_from (get_or ps i [])) (map_p (λ s. div binary64 s (real_of (pos k))) (position_from v)))

-- the first n cells are made by f of what was there, and the others are as they were
pub record Made (f : ℕ → List Float → List Float) (n : ℕ) (old new : List (List Float)) : Type 0 where
  pub front : (i : ℕ) → i < n → get_or new i [] ≡ f i (get_or old i [])
  pub rest : drop n new ≡ drop n old

abbrev pub symmetrized_site : List Position → List Matrix → List (List Float) → List ℕ → ℕ → Position
symmetrized_site ps gs vs images i = symmetrized_at ps (operations_from gs vs) (permutations_of (length ps) (length gs) images) i

-- the cells of a position less the shift, times m
abbrev pub moved_cells : RealMatrix → Position → List Float → List Float
moved_cells m shift v = cells_of (apply_f m (sub_p (position_from v) shift))

abbrev pub moved : RealMatrix → Position → List (List Float) → List (List Float)
moved m shift ps = map (moved_cells m shift) ps
