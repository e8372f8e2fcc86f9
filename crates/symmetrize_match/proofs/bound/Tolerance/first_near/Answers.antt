-- `first_near` meets its contract: the squares behind the one that is tried are still to be searched.
use Prim.Native.Nat.{◌+◌}
use native.Mathlib.Nat.{add_assoc}
use native.Mathlib.Omega.{arith}
use mathlib.Core.Path.{sym, ◌∙◌}
use Rattle.symmetrize_match.proofs.Near.{on_fit, on_miss, at_end_lem}
use borrow.Author.Rules.{rules}
use Rattle.symmetrize_match.proofs.bound.Tolerance.first_near.Goals as goal

pub returns-in-Some : goal.returns-in-Some
returns-in-Some c =
    let a = c.args in
    let r = c.near in
    let l = c.loop-i in
    sym (l.invariant ∙ on_fit a.self.symprec a.squares.now (a.from + l.i) l.i r.result _ (search rules) r.ensures c.in-Some.is)

pub loop-i-preserved : goal.loop-i-preserved
loop-i-preserved c =
    let a = c.args in
    let r = c.near in
    let l = c.loop-i in
    l.invariant ∙ rw add_assoc at (on_miss a.self.symprec a.squares.now (a.from + l.i) l.i r.result (search rules) r.ensures c.in_default.is)

pub returns : goal.returns
returns c =
    let a = c.args in
    sym (c.loop-i.invariant ∙ at_end_lem a.self.symprec a.squares.now (a.from + c.loop-i.i) c.loop-i.i (omega arith))
