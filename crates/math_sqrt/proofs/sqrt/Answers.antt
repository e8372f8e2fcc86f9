-- Each return is a case of the definition, and the definition's root is the nearest.
use Rattle.std.proofs.Common.{◌%◌, ◌≤◌, ◌≡◌, refl, sym, ap, ◌∙◌, subst, arith, rules}
use Rattle.std.specs.Prelude.{Bool, true, not, T, Float}
use Rattle.std.specs.Float.{nan, inf, fin, binary64}
use Rattle.std.specs.Float.Ieee.{of_bits, to_bits, fits, is_nan}
use borrow.Author.Tests.{le-ltb}
use lib.Ieee.Bits.{of_bits-to_bits, nan_bits_above}
use Rattle.definitions.specs.Real.{IsSqrt, sqrt}
use Rattle.math_sqrt.specs.Nearest.{sqrt_is_nearest}
use Rattle.math_sqrt.specs.Cases.{root_of_zero, root_of_negative, root_of_infinite, root_of_positive}
use Rattle.math_sqrt.proofs.sqrt.Goals as goal

of_nan : (x : Float) → true ≡ is_nan x → x ≡ sqrt x
unfolding sqrt is_nan
of_nan nan e = refl
of_nan (inf s) e = cc
of_nan (fin s m d) e = cc

both : (x r : Float) → T (fits binary64 x) → r ≡ sqrt x → (r ≡ sqrt x) × IsSqrt x r
both x r f e = (e, subst (IsSqrt x) (sym e) (sqrt_is_nearest x f))

itself : (x : Float) → T (fits binary64 x) → sqrt (of_bits binary64 (to_bits binary64 x)) ≡ of_bits binary64 (to_bits binary64 x) → (x ≡ sqrt x) × IsSqrt x x
itself x f e = both x x f (sym (subst (λ y. sqrt y ≡ y) (of_bits-to_bits binary64 x f) e))

no_number : of_bits binary64 9221120237041090560 ≡ nan
unfolding of_bits
no_number = refl

pub returns-then-is_nan : goal.returns-then-is_nan
returns-then-is_nan c =
    let x = c.args.x in
    let told = both x x (search rules) (of_nan x c.if-is_nan.ensures.value) in record { value = told.0; nearest = told.1 }

pub returns-then-b-eq0 : goal.returns-then-b-eq0
returns-then-b-eq0 c =
    let x = c.args.x in
    let told = itself x (search rules) (root_of_zero (to_bits binary64 x) c.if-b-eq0.true) in record { value = told.0; nearest = told.1 }

pub returns-then-b-ge-SIGN : goal.returns-then-b-ge-SIGN
returns-then-b-ge-SIGN c =
    let x = c.args.x in
    let f : T (fits binary64 x) = search rules in
    let told = both x _ f (no_number ∙ sym (root_of_negative (to_bits binary64 x) c.if-b-ge-SIGN.true c.if-b-eq0.false) ∙ ap sqrt (of_bits-to_bits binary64 x f)) in record { value = told.0; nearest = told.1 }

pub returns-then-b-ge-INFINITY : goal.returns-then-b-ge-INFINITY
returns-then-b-ge-INFINITY c =
    let x = c.args.x in
    let told = itself x (search rules) (root_of_infinite (to_bits binary64 x) (omega arith) (omega arith)) in record { value = told.0; nearest = told.1 }

pub float_from_bits-result : goal.float_from_bits-result
float_from_bits-result c =
    let r = c.root_of_fields.result in
    let l : r % 0x8000000000000000 ≤ 0x7FF0000000000000 = omega (arith, c.root_of_fields.ensures.upper_bound) in
    subst (λ (b : Bool). T (not b)) (sym (nan_bits_above binary64 r ∙ le-ltb 0x7FF0000000000000 (r % 0x8000000000000000) l)) tt

pub returns : goal.returns
returns c =
    let x = c.args.x in
    let f : T (fits binary64 x) = search rules in
    let told = both x _ f (ap (of_bits binary64) c.root_of_fields.ensures.value ∙ sym (root_of_positive x f (omega arith) (omega arith))) in record { value = told.0; nearest = told.1 }
