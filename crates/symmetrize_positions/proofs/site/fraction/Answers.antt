-- `fraction`: coordinate by coordinate, by sums where they settle all three.
use mathlib.Core.Path.{◌≡◌, sym, ◌∙◌}
use mathlib.Core.Bool.{Bool, true, ◌&&◌}
use lib.Dec.{T}
use lib.Ieee.{binary64, fits}
use Rattle.laws.specs.Tests.{so, true_of, both_pass}
use Rattle.math_round.proofs.OffWhole.{off_whole_is}
use borrow.Author.Rules.{rules}
use Rattle.symmetrize_positions.proofs.site.fraction.Goals as goal

three : (a b c : Bool) → (a && b && c) ≡ true → (a ≡ true) × (b ≡ true) × (c ≡ true)
three a b c h =
    let last = both_pass (a && b) c (so h) in
    let first = both_pass a b last.0 in
    (true_of a first.0, true_of b first.1, true_of c last.1)

pub returns-then-x-y : goal.returns-then-x-y
returns-then-x-y c =
    let p = c.args.d in
    let at = three _ _ _ c.if-x-y.true in
    let fx : T (fits binary64 p.x) = search rules in
    let fy : T (fits binary64 p.y) = search rules in
    let fz : T (fits binary64 p.z) = search rules in
    let x = c.off_whole.ensures ∙ off_whole_is p.x fx (sym c.settles-x.ensures ∙ at.0) in
    let y = c.off_whole-then-x-y.ensures ∙ off_whole_is p.y fy (sym c.settles-y.ensures ∙ at.1) in
    let z = c.off_whole-then-x-y-2.ensures ∙ off_whole_is p.z fz (sym c.settles-z.ensures ∙ at.2) in
    λ i. record { x = x i; y = y i; z = z i }
