-- What the comparisons of the code say.
use Prim.Native.Nat.{ℕ}
use mathlib.Core.Path.{◌≡◌, refl, sym, ◌∙◌}
use mathlib.Core.List.{[], ◌∷◌}
use mathlib.Core.Bool.{Bool, true, false, ◌&&◌}
use lib.Dec.{leb, leb-suc-suc}
use lib.IntN.{ℤ, pos, negsuc, nat_abs}
use lib.Signed.{le_z}
use lib.Ieee.{Float, nan, inf, fin, lt, eq, le, of_int, of_bits}
use Rattle.definitions.specs.Real.{is_finite}
use Rattle.definitions.specs.Job.{float}
use Rattle.definitions.specs.Limits.{magnitude, within, position_limit, lattice_limit}
use Rattle.definitions.specs.Lists.{all}
use Rattle.checks.specs.Entries.{at_most}
use Rattle.std.specs.Float.{float_with_sign}
use Rattle.laws.specs.Lists.{list_all-is_all}
use Rattle.laws.specs.Tests.{and-true}

-- ---- whole numbers

-- from -31 to 31, by the code's two comparisons
pub in_limits : (z : ℤ) → (le_z (negsuc 30) z && le_z z (pos 31)) ≡ leb (nat_abs z) 31
in_limits (pos n) = refl
in_limits (negsuc n) = and-true (leb n 30) ∙ sym (leb-suc-suc n 30)

-- ---- floats

-- The library's magnitude is the definition's.
pub magnitude_is : (x : Float) → float_with_sign false x ≡ magnitude x
unfolding float_with_sign
magnitude_is nan = refl
magnitude_is (inf s) = refl
magnitude_is (fin s m e) = refl

-- What is at most a number in magnitude is finite.
finite_too : (k : ℕ) (d : ℤ) (x : Float) → le (magnitude x) (fin false k d) ≡ (is_finite x && le (magnitude x) (fin false k d))
unfolding le lt eq
finite_too k d nan = refl
finite_too k d (inf s) = refl
finite_too k d (fin s m e) = refl

-- The code's literals are the definition's limits, 125 times 2 to the 3 and 15625 times 2 to the 6.
pub within_position : (x : Float) → at_most (float 0x408f400000000000) x ≡ within position_limit x
unfolding of_int of_bits
within_position x = finite_too 125 (pos 3) x

pub within_lattice : (x : Float) → at_most (float 0x412e848000000000) x ≡ within lattice_limit x
unfolding of_int of_bits
within_lattice x = finite_too 15625 (pos 6) x

three_ands : (a b c : Bool) → (a && (b && (c && true))) ≡ (a && b && c)
three_ands false b c = refl
three_ands true false c = refl
three_ands true true c = and-true c

pub three_within : (x y z : Float) →
    all (at_most (float 0x408f400000000000)) (x ∷ y ∷ z ∷ []) ≡
    (within position_limit x && within position_limit y && within position_limit z)
three_within x y z =
    sym (list_all-is_all (at_most (float 0x408f400000000000)) (x ∷ y ∷ z ∷ []))
    ∙ (λ i. within_position x i && (within_position y i && (within_position z i && true)))
    ∙ three_ands (within position_limit x) (within position_limit y) (within position_limit z)
