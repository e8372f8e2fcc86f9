-- A subnormal's digits are moved up by the places that it is short of 53; a normal number has its first digit added.
use Rattle.std.proofs.Common.{ℕ, zero, suc, ◌+◌, ◌-◌, ◌*◌, ◌^◌, ◌<◌, ◌≡◌, refl, sym, ◌∙◌, arith, rules}
use lib.Ieee.{size}
use Rattle.definitions.specs.Real.{root_pattern, root_of_fields}
use Rattle.math_sqrt.specs.Shift.{leading_size, size_few, shifted_few, shifted_is}
use Rattle.math_sqrt.proofs.root_of_fields.Goals as goal

-- `root_of_fields` by cases
of_zero : (x t : ℕ) → x ≡ 0 → root_of_fields x t ≡ root_pattern (t * 2 ^ (53 - size t)) (1074 - (53 - size t))
unfolding root_of_fields
of_zero zero t e = refl
of_zero (suc x) t e = cc

of_more : (x t : ℕ) → (x ≡ 0 → ⊥) → root_of_fields x t ≡ root_pattern (2 ^ 52 + t) (x + 1073)
unfolding root_of_fields
of_more zero t h = absurd (h refl)
of_more (suc x) t h = refl

same_pattern : (t y t' y' q : ℕ) → q ≡ root_pattern t y → t ≡ t' → y ≡ y' → q ≡ root_pattern t' y'
same_pattern t y t' y' q h e f = rw (e, f) at h

pub overflow_sub-s : goal.overflow_sub-s
overflow_sub-s c =
    let t = c.args.t in
    let above : 0 < t = omega arith in
    omega (arith, leading_size t above c.requires.1, size_few t above c.requires.1)

pub root_pattern-requires : goal.root_pattern-requires
root_pattern-requires c =
    let t = c.args.t in
    let above : 0 < t = omega arith in
    let front = leading_size t above c.requires.1 in
    (shifted_few t above c.requires.1 _ (omega (arith, front)), omega (arith, front), omega arith)

pub returns-then-x-eq0-clause-value : goal.returns-then-x-eq0-clause-value
returns-then-x-eq0-clause-value c =
    let t = c.args.t in
    let above : 0 < t = omega arith in
    let few = size_few t above c.requires.1 in
    let front = leading_size t above c.requires.1 in
    same_pattern _ _ (t * 2 ^ (53 - size t)) (1074 - (53 - size t)) _ c.root_pattern.ensures.value
    (shifted_is t above c.requires.1 _ (omega (arith, front, few))) (omega (arith, front, few))
    ∙ sym (of_zero c.args.x t (search rules))

pub returns-clause-value : goal.returns-clause-value
returns-clause-value c =
    let x = c.args.x in
    let t = c.args.t in
    same_pattern _ _ (2 ^ 52 + t) (x + 1073) _ c.root_pattern-2.ensures.value (omega arith) (omega arith)
    ∙ sym (of_more x t (search rules))
