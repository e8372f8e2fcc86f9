-- Three fractions, each within the limit.
use mathlib.Core.Path.{◌∙◌}
use Rattle.checks.proofs.Laws.{three_within}
use Rattle.checks.proofs.position_within.Goals as goal

pub returns : goal.returns
returns c =
    let p = c.args.p in
    c.all_within.ensures ∙ three_within p.x p.y p.z
