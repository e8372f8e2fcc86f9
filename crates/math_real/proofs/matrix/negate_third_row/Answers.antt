-- The third row by what `map` says of each entry.
use Rattle.std.proofs.Common.{◌≡◌, List, [], ◌∷◌, get_or, ap, rules}
use Rattle.std.proofs.lemmas.Grind.{common_steps}
use Rattle.std.specs.Prelude.{Float}
use Rattle.std.specs.Float.Ieee.{neg}
use Rattle.math_real.specs.Rows.{item, three}
use Rattle.math_real.proofs.matrix.negate_third_row.Goals as goal

pub returns : goal.returns
returns c =
    let m = c.args.m in
    let e : c.map.result ≡ three (λ j. neg (item (get_or m 2 []) j)) = search (rules, common_steps) in
    ap (λ (r : List Float). get_or m 0 [] ∷ get_or m 1 [] ∷ r ∷ []) e
