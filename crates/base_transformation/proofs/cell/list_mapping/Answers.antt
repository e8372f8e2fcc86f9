-- The entry of each place is its site's number.
use Rattle.std.proofs.Common.{◌≡◌, ◌*◌, get_or, replicate, rules, sym, ap, ◌∙◌}
use lib.ListN.{length-replicate, get_or-replicate}
use Rattle.definitions.specs.Lists.{up_to}
use Rattle.definitions.specs.Cell.{site_mapping}
use Rattle.laws.specs.Lists.{length-each, each_at, length-up_from, below_up_to, up_to_at}
use Rattle.base_transformation.proofs.cell.list_mapping.Goals as goal

pub returns : goal.returns
unfolding site_mapping
returns c =
    let n = c.args.n in
    let m = c.args.m in
    c.list_runs.ensures (site_mapping n m) (length-each (replicate m) m (length-replicate m) (up_to n) ∙ ap (λ j. j * m) (length-up_from 0 n))
    (λ i k x h g p.
    let e : x ≡ i = search rules in
    e ∙ sym (each_at (replicate m) m (length-replicate m) (up_to n) i k 0 x (below_up_to n i h) g ∙ get_or-replicate m k (get_or (up_to n) i 0) x g ∙ up_to_at n i h))
