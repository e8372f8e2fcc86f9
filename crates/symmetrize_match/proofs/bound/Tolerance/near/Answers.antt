-- `near` meets its contract: from the bound on, the root is not asked.
use mathlib.Core.Path.{sym}
use borrow.Author.Rules.{rules}
use Rattle.math_sqrt.specs.Monotone.{root_not_below}
use Rattle.symmetrize_match.specs.Match.{first_near}
use Rattle.symmetrize_match.proofs.bound.Tolerance.near.Goals as goal

pub returns-then-self-square : goal.returns-then-self-square
unfolding first_near
returns-then-self-square c =
    let a = c.args in
    rw (root_not_below a.self.bound a.square a.self.symprec (search rules) (search rules) a.self.is_bound.above c.if-self-square.true a.self.is_bound.root)

pub returns-then-distance-self : goal.returns-then-distance-self
unfolding first_near
returns-then-distance-self c = rw (sym c.sqrt-distance.ensures.value, c.if-distance-self.true)

pub returns : goal.returns
unfolding first_near
returns c = rw (sym c.sqrt-distance.ensures.value, c.if-distance-self.false)
