-- The last of the transformed rotations that is a target's, and the permutations by it: what the functions here say of
-- each other.
use Rattle.std.specs.Prelude.{ℕ, ◌*◌, ◌≤◌, ◌≡◌, Bool, true, false, List, [], ◌++◌, reverse, get_or, length, drop}
use Rattle.std.specs.Prelude.{Option as Found, Some, None}
use Rattle.std.proofs.Math.Option.{Option, none, some}
use Rattle.std.specs.Prelude.{Err, Ok}
use Rattle.definitions.specs.declared.Refusal.TheVariants.{TargetRotation}
use Rattle.definitions.specs.Lists.{any, each, first, up_to}
use Rattle.definitions.specs.Limits.{most_sites, most_operations}
use Rattle.definitions.specs.Matrix.{Matrix}
use Rattle.definitions.specs.Calls.{align_conditions}
use Rattle.definitions.specs.Refusal.{Condition, Verdict, Checked}
use Rattle.definitions.specs.Transformation.{same_matrix, is_none, permutation_or, rotation_absent, aligned_to}
use Rattle.laws.specs.Verdicts.{Passed}
use Rattle.symmetrize_align.specs.declared.GivenAlignment.{GivenAlignment}

-- ---- the search

-- the last of the first k places with the target's rotation
unfoldable pub last_below : List Matrix → Matrix → ℕ → Option ℕ
last_below ms g k = first (λ j. same_matrix (get_or ms j []) g) (reverse (up_to k))

abbrev pub last_of : List Matrix → Matrix → Option ℕ
last_of ms g = last_below ms g (length ms)

-- what the search gives its caller
abbrev pub found : Option ℕ → Found ℕ
found none = None
found (some k) = Some k

-- ---- the answer, from the rotations ms

-- the permutation of the target g
abbrev pub aligned_by : List Matrix → List ℕ → ℕ → Matrix → List ℕ
aligned_by ms images n g = permutation_or n images (last_of ms g)

-- no target's rotation is absent and the answer stands at the front, or one is absent
abbrev pub Put : List Matrix → List ℕ → ℕ → List Matrix → List ℕ → List ℕ → Verdict → Type 0
Put ms images n gs old new (Ok u) =
    (any (λ g. is_none (last_of ms g)) gs ≡ false)
    × (length (each (aligned_by ms images n) gs) ≡ length gs * n)
    × (new ≡ each (aligned_by ms images n) gs ++ drop (length gs * n) old)
Put ms images n gs old new (Err r) = (r ≡ TargetRotation) × (any (λ g. is_none (last_of ms g)) gs ≡ true)

-- ---- the call

-- its conditions and its answer, as the definitions take what it is given
abbrev pub conditions : GivenAlignment → ℕ → List Condition
conditions g room =
    let o = g.operations in
    align_conditions g.t o.rotations.now o.images.now o.sites g.targets.now room

abbrev pub answer : GivenAlignment → List ℕ
answer g =
    let o = g.operations in
    each (λ p. p) (aligned_to o.sites g.t o.rotations.now o.images.now g.targets.now)

abbrev pub one_absent : GivenAlignment → Bool
one_absent g = rotation_absent g.t g.operations.rotations.now g.targets.now

-- how long the answer is
abbrev pub size : GivenAlignment → ℕ
size g = length g.targets.now * g.operations.sites

-- what is known past 2 and 10
pub record Known (g : GivenAlignment) (room : ℕ) : Type 0 where
  pub sites : g.operations.sites ≤ most_sites
  pub operations : length g.operations.rotations.now ≤ most_operations
  pub of_images : length g.operations.images.now ≡ length g.operations.rotations.now * g.operations.sites
  pub of_targets : length g.targets.now ≤ most_operations
  pub of_room : size g ≤ room

-- past the refusals before 11
abbrev pub Aligned : GivenAlignment → List ℕ → List ℕ → Verdict → Type 0
Aligned g old new (Ok u) =
    (one_absent g ≡ false) × (length (answer g) ≡ size g) × (new ≡ answer g ++ drop (size g) old)
Aligned g old new (Err r) = (r ≡ TargetRotation) × (one_absent g ≡ true)

-- the verdict, and the answer at the front of the list: what is behind it is as it was
abbrev pub Written : GivenAlignment → List ℕ → List ℕ → Verdict → Type 0
Written g old new (Ok u) =
    Known g (length old)
    × Checked (conditions g (length old)) (Ok tt)
    × (length (answer g) ≡ size g)
    × (new ≡ answer g ++ drop (size g) old)
Written g old new (Err r) = Checked (conditions g (length old)) (Err r)

-- the verdict up to 10: refused, or past the first five conditions
abbrev pub Given : List Condition → Verdict → Type 0
Given cs (Ok u) = Passed cs 5
Given cs (Err r) = Checked cs (Err r)
