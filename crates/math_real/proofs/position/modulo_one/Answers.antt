-- `modulo_one`: below 1 the float itself, else less its whole part.
use mathlib.Core.Path.{sym, ap, ◌∙◌}
use lib.Dec.{T}
use lib.Ieee.{binary64, fits, of_bits, neg, sub}
use borrow.Author.Rules.{rules}
use Rattle.definitions.specs.Cell.{reduced}
use Rattle.math_real.proofs.Remainder.{below_one}
use Rattle.math_real.proofs.Cut.{above, below}
use Rattle.math_real.proofs.position.modulo_one.Goals as goal

pub returns-then-x-2 : goal.returns-then-x-2
unfolding reduced of_bits neg
returns-then-x-2 c =
    let x = c.args.x in
    let f : T (fits binary64 x) = search rules in
    sym (below_one x f c.if-x-2.true c.if-x.true)

pub returns-then-x : goal.returns-then-x
unfolding reduced of_bits neg
returns-then-x c =
    let x = c.args.x in
    let f : T (fits binary64 x) = search rules in
    ap (λ w. neg (sub binary64 (neg x) w)) c.trunc.ensures ∙ below x f c.if-x.true c.if-x-2.false

pub returns : goal.returns
unfolding reduced of_bits neg
returns c =
    let x = c.args.x in
    let f : T (fits binary64 x) = search rules in
    ap (λ w. sub binary64 x w) c.trunc-2.ensures ∙ above x f c.if-x.false
