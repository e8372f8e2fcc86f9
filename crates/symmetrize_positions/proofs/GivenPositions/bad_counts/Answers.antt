-- `bad_counts`: the tests of the counts, the images' before the translations'.
use mathlib.Core.Path.{refl, sym, ◌∙◌}
use mathlib.Core.Bool.{◌||◌}
use lib.ListN.{length}
use Rattle.definitions.specs.Limits.{too_many_sites, not_some}
use Rattle.definitions.specs.Lent.{unlike}
use Rattle.laws.specs.Tests.{or_left, as_second}
use Rattle.symmetrize_positions.proofs.Counts.{last_two}
use Rattle.symmetrize_positions.proofs.GivenPositions.bad_counts.Goals as goal

pub returns-then-bad_permutation_counts : goal.returns-then-bad_permutation_counts
returns-then-bad_permutation_counts c =
    let g = c.args.self.now in
    let k = length g.targets.rotations.now in
    c.if-bad_permutation_counts.true
    ∙ sym (or_left _ (sym c.bad_permutation_counts.ensures ∙ c.if-bad_permutation_counts.true))
    ∙ last_two (too_many_sites (length g.positions.now) || not_some k) (unlike (length g.targets.translations.now) k) _

pub returns-else-bad_permutation_counts : goal.returns-else-bad_permutation_counts
returns-else-bad_permutation_counts c =
    let g = c.args.self.now in
    let k = length g.targets.rotations.now in
    as_second _ _ _ (sym c.bad_permutation_counts.ensures ∙ c.if-bad_permutation_counts.false) refl
    ∙ last_two (too_many_sites (length g.positions.now) || not_some k) (unlike (length g.targets.translations.now) k) _
