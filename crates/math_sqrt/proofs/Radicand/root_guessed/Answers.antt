-- A guess that passes both tests is the first half of the root.
use Rattle.std.proofs.Common.{ℕ, ◌+◌, ◌-◌, ◌*◌, ◌^◌, ◌≡◌, subst, arith}
use Rattle.math_sqrt.specs.Root.{Cut, cut_is}
use Rattle.math_sqrt.proofs.Radicand.root_guessed.Goals as goal

pub returns-then-r-s-clause-value : goal.returns-then-r-s-clause-value
returns-then-r-s-clause-value c =
    let w = c.args.self.w in
    let s = c.guess_half-half.result.s in
    let e : s * s + (w - s * s) ≡ w = omega (arith, c.if-s-w.true) in
    (cut_is w _ (omega arith) (subst (λ (n : ℕ). Cut (n * 4 ^ 27) c.second_half.result) e c.second_half.ensures)).0
