-- The entry of each place is the point of that place in its run.
use Rattle.std.proofs.Common.{◌≡◌, ◌*◌, [], length, get_or, rules, sym, refl, ap, ◌∙◌}
use Rattle.std.proofs.lemmas.List.{get_or_default}
use Rattle.definitions.specs.Lists.{up_to}
use Rattle.definitions.specs.Cell.{listed_points}
use Rattle.laws.specs.Lists.{length-each, each_at, length-up_from, below_up_to}
use Rattle.base_transformation.proofs.cell.list_run_points.Goals as goal

pub returns : goal.returns
unfolding listed_points
returns c =
    let n = c.args.n in
    let ps = c.args.points.now in
    c.list_runs.ensures (listed_points n ps) (length-each (λ s. ps) (length ps) (λ s. refl) (up_to n) ∙ ap (λ j. j * length ps) (length-up_from 0 n))
    (λ i k x h g p.
    let e : x ≡ get_or ps k [] = search rules in
    e ∙ get_or_default ps k [] x g ∙ sym (each_at (λ s. ps) (length ps) (λ s. refl) (up_to n) i k 0 x (below_up_to n i h) g))
