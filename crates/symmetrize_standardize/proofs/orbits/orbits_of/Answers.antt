-- `orbits_of`: so many are their own label.
use mathlib.Core.Path.{◌∙◌}
use lib.ListN.{take}
use Rattle.symmetrize_standardize.proofs.Counted.{counted}
use Rattle.symmetrize_standardize.proofs.orbits.orbits_of.Goals as goal

pub returns : goal.returns
returns c = c.count_own.ensures ∙ counted (take c.args.n c.args.lists.now.labels.now)
