-- A NaN is special, and every other float is told by its pattern.
use Rattle.std.proofs.Common.{◌≡◌, refl, inl, arith, rules, ◌<◌}
use Rattle.std.specs.Prelude.{T, Float, true}
use Rattle.std.specs.Float.{nan, inf, fin, binary64}
use Rattle.std.specs.Float.Ieee.{fits, is_nan}
use Rattle.math_round.specs.Cases.{Special}
use Rattle.math_round.specs.Pattern.{field_of, bits_of}
use Rattle.math_round.proofs.ByPattern.{zero_is_special, infinite_is_special, other_is_not, whole_is_nearest, parted}
use Rattle.math_round.proofs.pattern.measured.Goals as goal

no_number : (x : Float) → true ≡ is_nan x → Special x
unfolding is_nan
no_number nan e = inl refl
no_number (inf s) e = cc
no_number (fin s m d) e = cc

pub returns-then-is_nan : goal.returns-then-is_nan
returns-then-is_nan c = no_number c.args.x c.if-is_nan.ensures.value

pub returns-then-size-eq0 : goal.returns-then-size-eq0
returns-then-size-eq0 c = zero_is_special c.args.x (search rules) c.if-size-eq0.true

pub returns-then-size-ge-INFINITY : goal.returns-then-size-ge-INFINITY
returns-then-size-ge-INFINITY c = infinite_is_special c.args.x (search rules) c.if-size-ge-INFINITY.true

pub returns-then-field-ge-WHOLE : goal.returns-then-field-ge-WHOLE
returns-then-field-ge-WHOLE c =
    let x = c.args.x in
    let f : T (fits binary64 x) = search rules in
    let s = other_is_not x f (omega (arith, c.if-size-eq0.false)) (omega (arith, c.if-size-ge-INFINITY.false)) in
    whole_is_nearest x f s (omega (arith, c.if-field-ge-WHOLE.true, c.field.ensures))

pub returns : goal.returns
returns c =
    let x = c.args.x in
    let f : T (fits binary64 x) = search rules in
    let s = other_is_not x f (omega (arith, c.if-size-eq0.false)) (omega (arith, c.if-size-ge-INFINITY.false)) in
    let k : field_of (bits_of x) < 1075 = omega (arith, c.if-field-ge-WHOLE.false, c.field.ensures) in
    parted x f s k c.split.result c.split.ensures
