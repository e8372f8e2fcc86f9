-- The definition's pattern, whose power of 2 is 1 or 2.
use Rattle.std.proofs.Common.{ℕ, ◌+◌, ◌-◌, ◌*◌, ◌/◌, ◌%◌, ◌^◌, ◌≡◌, refl, arith}
use Rattle.definitions.specs.Real.{root_cut, root_pattern}
use Rattle.math_sqrt.specs.Shift.{bit_power}
use Rattle.math_sqrt.proofs.root_pattern.Goals as goal

pattern_is : (t y : ℕ) → root_pattern t y ≡ (y / 2 - 26) * 2 ^ 52 + (root_cut 54 (t * 2 ^ (y % 2) * 4 ^ 27) + 1) / 2
unfolding root_pattern
pattern_is t y = refl

same-cut : (t a b q : ℕ) → q ≡ root_cut 54 (t * a * 4 ^ 27) → a ≡ b → q ≡ root_cut 54 (t * b * 4 ^ 27)
same-cut t a b q h e = rw e at h

pub returns-clause-value : goal.returns-clause-value
returns-clause-value c =
    let t = c.args.t in
    let y = c.args.y in
    let p = bit_power (y % 2) (omega arith) in
    let e = same-cut t _ (2 ^ (y % 2)) _ c.root_guessed-q.ensures.value (omega arith) in
    omega (arith, pattern_is t y, e)
