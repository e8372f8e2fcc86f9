-- `bad_sites`: the images are tested before the mapping.
use mathlib.Core.Path.{sym, ap, ◌∙◌}
use mathlib.Core.Bool.{not}
use Rattle.laws.specs.Tests.{or_left, as_second}
use Rattle.base_cell.proofs.verdicts.Labelling.bad_sites.Goals as goal

pub returns-then-not-all_permutations : goal.returns-then-not-all_permutations
returns-then-not-all_permutations c = sym (or_left _ (ap not (sym c.all_permutations.ensures) ∙ (ap not c.if-not-all_permutations.true)))

pub returns : goal.returns
returns c =
    as_second _ _ _ (ap not (sym c.all_permutations.ensures) ∙ (ap not c.if-not-all_permutations.false)) c.bad_mapping.ensures
