-- The centring vectors of International Tables A, a table of its own. That the points of each centring are just these
-- stands in proofs/.
use Rattle.std.specs.Prelude.{ℕ, suc, ◌-◌, ◌*◌, ◌%◌, Bool, ◌&&◌, List, [], ◌∷◌, map, length, T, eqb, ℤ, pos, negsuc, nat_abs}
use Rattle.std.proofs.Math.Option.{Option, none, some}
use Rattle.definitions.specs.declared.Centering.{Centering}
use Rattle.definitions.specs.declared.Centering.TheVariants.{P, A, B, C, I, R, F}
use Rattle.definitions.specs.Lists.{all, count}
use Rattle.definitions.specs.Matrix.{Matrix, det, adjugate, apply, item}
use Rattle.definitions.specs.Snf.{State, Run, points}
use Rattle.definitions.specs.Centering.{linear}

-- a fraction: numerator over denominator
pub record Fraction : Type 0 where
  pub over : ℕ
  pub under : ℕ

infix 70 ◌/ᶠ◌
abbrev pub ◌/ᶠ◌ : ℕ → ℕ → Fraction
n /ᶠ d = record { over = n; under = d }

pub record Vector : Type 0 where
  pub x : Fraction
  pub y : Fraction
  pub z : Fraction

abbrev pub vec : Fraction → Fraction → Fraction → Vector
vec a b c = record { x = a; y = b; z = c }

-- International Tables A (2002), chapter 1.2, "Printed symbols for conventional centring types": the centring vectors
-- of each
-- symbol, "(R obverse)"
unfoldable pub vectors : Centering → List Vector
vectors P = vec (0 /ᶠ 1) (0 /ᶠ 1) (0 /ᶠ 1) ∷ []
vectors A = vec (0 /ᶠ 1) (0 /ᶠ 1) (0 /ᶠ 1) ∷ vec (0 /ᶠ 1) (1 /ᶠ 2) (1 /ᶠ 2) ∷ []
vectors B = vec (0 /ᶠ 1) (0 /ᶠ 1) (0 /ᶠ 1) ∷ vec (1 /ᶠ 2) (0 /ᶠ 1) (1 /ᶠ 2) ∷ []
vectors C = vec (0 /ᶠ 1) (0 /ᶠ 1) (0 /ᶠ 1) ∷ vec (1 /ᶠ 2) (1 /ᶠ 2) (0 /ᶠ 1) ∷ []
vectors I = vec (0 /ᶠ 1) (0 /ᶠ 1) (0 /ᶠ 1) ∷ vec (1 /ᶠ 2) (1 /ᶠ 2) (1 /ᶠ 2) ∷ []
vectors R = vec (0 /ᶠ 1) (0 /ᶠ 1) (0 /ᶠ 1) ∷ vec (2 /ᶠ 3) (1 /ᶠ 3) (1 /ᶠ 3) ∷ vec (1 /ᶠ 3) (2 /ᶠ 3) (2 /ᶠ 3) ∷ []
vectors F =
    vec (0 /ᶠ 1) (0 /ᶠ 1) (0 /ᶠ 1)
    ∷ vec (0 /ᶠ 1) (1 /ᶠ 2) (1 /ᶠ 2)
    ∷ vec (1 /ᶠ 2) (0 /ᶠ 1) (1 /ᶠ 2)
    ∷ vec (1 /ᶠ 2) (1 /ᶠ 2) (0 /ᶠ 1)
    ∷ []

-- the remainder of a whole number, from 0 below n
abbrev pub modulo : ℤ → ℕ → ℕ
modulo (pos a) n = a % n
modulo (negsuc a) n = n - suc (a % n)

-- C⁻¹ times a point, "taken as whole numbers over det C", modulo 1, for a determinant above 0
abbrev pub vector_of : Matrix → List ℤ → Vector
vector_of c p =
    let n = nat_abs (det c) in
    let v = apply (adjugate c) p in
    vec (modulo (item v 0) n /ᶠ n) (modulo (item v 1) n /ᶠ n) (modulo (item v 2) n /ᶠ n)

abbrev pub same_fraction : Fraction → Fraction → Bool
same_fraction a b = eqb (a.over * b.under) (b.over * a.under)

abbrev pub same_vector : Vector → Vector → Bool
same_vector v w = same_fraction v.x w.x && same_fraction v.y w.y && same_fraction v.z w.z

-- "just the centring vectors of International Tables A, each once": each vector of the table is that of exactly one
-- point, and there are as many points as vectors
unfoldable pub just_the_vectors : Centering → State → Bool
unfolding linear vectors points all count
just_the_vectors s t =
    let found = map (vector_of (linear s)) (points t) in
    eqb (length found) (length (vectors s)) && all (λ v. eqb (count (same_vector v) found) 1) (vectors s)

-- ---- the theorem

-- a run of the matrix whose points are just the vectors, if that many passes find one
unfoldable pub Found : (s : Centering) → Option (Run (linear s)) → Type 0
Found s none = ⊥
Found s (some r) = T (just_the_vectors s r.third)
