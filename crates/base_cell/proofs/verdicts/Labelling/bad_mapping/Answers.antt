-- `bad_mapping`: each entry is a primitive site, or not.
use Rattle.std.proofs.Common.{ap, ◌∙◌, not}
use Rattle.std.proofs.Math.Dec.{ltb}
use Rattle.laws.specs.Lists.{list_all-is_all}
use Rattle.base_cell.proofs.verdicts.Labelling.bad_mapping.Goals as goal

pub returns : goal.returns
returns c = ap not (c.each_below.ensures ∙ list_all-is_all (λ i. ltb i c.args.self.now.sites) c.args.self.now.mapping.now)
