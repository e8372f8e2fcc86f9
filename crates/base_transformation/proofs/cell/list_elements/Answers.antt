-- The entry of each place is its site's element.
use Rattle.std.proofs.Common.{◌≡◌, get_or, replicate, pos, rules, sym, ◌∙◌}
use lib.ListN.{length-replicate, get_or-replicate}
use Rattle.definitions.specs.Cell.{listed_elements}
use Rattle.laws.specs.Lists.{length-each, each_at}
use Rattle.base_transformation.proofs.cell.list_elements.Goals as goal

pub returns : goal.returns
unfolding listed_elements
returns c =
    let es = c.args.elements.now in
    let m = c.args.m in
    c.list_runs.ensures (listed_elements es m) (length-each (replicate m) m (length-replicate m) es)
    (λ i k x h g p.
    let e : x ≡ get_or es i (pos 0) = search rules in
    e ∙ sym (each_at (replicate m) m (length-replicate m) es i k (pos 0) x h g ∙ get_or-replicate m k (get_or es i (pos 0)) x g))
