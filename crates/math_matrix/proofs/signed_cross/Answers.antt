-- `signed_cross`: by the three cases of `unit`; exchanged columns change the sign.
use mathlib.Core.Path.{◌≡◌, sym, ap, ◌∙◌}
use mathlib.Core.List.{List}
use borrow.Author.Rules.{rules}
use lib.IntN.{ℤ, pos, negsuc, ◌*ℤ◌, zero-*ℤ}
use Rattle.definitions.specs.Matrix.{item, three, unit}
use Rattle.math_matrix.specs.Solve.{one_left}
use Rattle.math_matrix.specs.Rows.{cross_of, cross_exchanged, unit_else}
use Rattle.math_matrix.proofs.signed_cross.Goals as goal

abbrev signed : List ℤ → List ℤ → ℤ → List ℤ
signed a b u = three (λ i. u *ℤ item (cross_of a b) i)

pub returns-in-1 : goal.returns-in-1
returns-in-1 c =
    let k : pos 1 ≡ c.args.k = search rules in
    let a = c.args.a in
    let b = c.args.b in
    c.cross.ensures ∙ (λ i. three (λ j. sym (one_left (item (cross_of a b) j)) i)) ∙ ap (λ (k : ℤ). signed a b (unit k)) k

pub returns-in-minus1 : goal.returns-in-minus1
returns-in-minus1 c =
    let k : negsuc 0 ≡ c.args.k = search rules in
    let a = c.args.a in
    let b = c.args.b in
    c.cross-in-minus1.ensures ∙ cross_exchanged a b ∙ ap (λ (k : ℤ). signed a b (unit k)) k

pub returns-in_default : goal.returns-in_default
returns-in_default c =
    let a = c.args.a in
    let b = c.args.b in
    let one : c.args.k ≡ pos 1 → ⊥ = λ e. absurd (search rules) in
    let other : c.args.k ≡ negsuc 0 → ⊥ = λ e. absurd (search rules) in
    (λ i. three (λ j. sym (zero-*ℤ (item (cross_of a b) j)) i)) ∙ ap (signed a b) (sym (unit_else c.args.k one other))
