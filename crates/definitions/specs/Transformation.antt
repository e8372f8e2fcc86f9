-- "Align (`align_primitive_permutations`)" and the positions in the selected primitive basis.
use Rattle.std.specs.Prelude.{ℕ, Bool, true, false, ◌&&◌, List, [], map, reverse, get_or, length, eqb, ℤ, pos, negsuc}
use Rattle.std.proofs.Math.Option.{Option, none, some}
use Rattle.definitions.specs.declared.Position.{Position}
use Rattle.definitions.specs.Lists.{any, first, up_to}
use Rattle.definitions.specs.Matrix.{Matrix, at, mul_m, inverse}
use Rattle.definitions.specs.Real.{real, apply_f, sub_p}
use Rattle.definitions.specs.Permutation.{permutation_at}
use Rattle.definitions.specs.Job.{Job, Operation}

-- "rotation R becomes T⁻¹RT"
abbrev pub transform_rotation : Matrix → Matrix → Matrix
transform_rotation t r = mul_m (mul_m (inverse t) r) t

abbrev pub same_z : ℤ → ℤ → Bool
same_z (pos a) (pos b) = eqb a b
same_z (pos a) (negsuc b) = false
same_z (negsuc a) (pos b) = false
same_z (negsuc a) (negsuc b) = eqb a b

abbrev pub same_row : Matrix → Matrix → ℕ → Bool
same_row a b i = same_z (at a i 0) (at b i 0) && same_z (at a i 1) (at b i 1) && same_z (at a i 2) (at b i 2)

abbrev pub same_matrix : Matrix → Matrix → Bool
same_matrix a b = same_row a b 0 && same_row a b 1 && same_row a b 2

abbrev pub rotations_of : List Operation → List Matrix
rotations_of = map (λ o. o.rotation)

-- the place of "the operation whose rotation became the target's"; "equal rotations, the last wins"
unfoldable pub operation_for : Matrix → List Matrix → Matrix → Option ℕ
unfolding first
operation_for t rs g = first (λ k. same_matrix (transform_rotation t (get_or rs k [])) g) (reverse (up_to (length rs)))

abbrev pub is_none : Option ℕ → Bool
is_none none = true
is_none (some k) = false

-- Refusal 11: "A target rotation absent among the transformed operations."
unfoldable pub rotation_absent : Matrix → List Matrix → List Matrix → Bool
unfolding any operation_for
rotation_absent t rs gs = any (λ g. is_none (operation_for t rs g)) gs

abbrev pub target_absent : Job → Bool
target_absent j = rotation_absent j.t (rotations_of j.operations) (rotations_of j.targets)

abbrev pub permutation_or : ℕ → List ℕ → Option ℕ → List ℕ
permutation_or n images none = []
permutation_or n images (some k) = permutation_at n images k

-- "The aligned permutations are a list with one for each target, in the order of the targets": of n sites, T, the
-- operations' rotations and images, and the targets' rotations
unfoldable pub aligned_to : ℕ → Matrix → List Matrix → List ℕ → List Matrix → List (List ℕ)
unfolding operation_for
aligned_to n t rs images gs = map (λ g. permutation_or n images (operation_for t rs g)) gs

abbrev pub aligned : Job → List (List ℕ)
aligned j = aligned_to (length j.sites) j.t (rotations_of j.operations) j.images (rotations_of j.targets)

-- "positions become T⁻¹(p - shift)"
abbrev pub transform_position : Matrix → Position → Position → Position
transform_position t shift p = apply_f (real (inverse t)) (sub_p p shift)

unfoldable pub transformed : Job → List Position
transformed j = map (λ s. transform_position j.t j.shift s.position) j.sites
