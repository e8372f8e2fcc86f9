-- `orbits_from_permutations`: from each site by itself, every step of the permutations joined, and the trees flattened.
use Rattle.std.proofs.Common.{subst}
use Rattle.definitions.specs.Orbit.{Step}
use Rattle.definitions.specs.SiteCalls.{permutations_in}
use Rattle.base_cell.specs.Given.{arguments_of}
use Rattle.base_cell.specs.Trees.{Linked, roots_decide}
use Rattle.base_cell.proofs.union_find.orbits_from_permutations.Goals as goal

pub returns : goal.returns
returns c =
    let alone = c.each_alone-forest in
    let joined = c.join_all in
    let ps = permutations_in (arguments_of c.args.x.now.labelling) in
    roots_decide 256 ps joined.new.self.parent c.flatten.result
    (subst (λ start. Linked 256 (Step ps) start joined.new.self.parent) alone.ensures joined.ensures)
    c.flatten.ensures
