-- `assignable`: test by test.
use mathlib.Core.Path.{◌∙◌}
use lib.Dec.{ltb}
use lib.ListN.{length}
use Rattle.laws.specs.Lists.{list_all-is_all}
use Rattle.symmetrize_wyckoff.proofs.Given.{at_most, eight-six, both_alike, prepared_alike}
use Rattle.symmetrize_wyckoff.proofs.guard.assignable.Goals as goal

pub returns : goal.returns
returns c =
    let a = c.args in
    let n = length a.labels.now in
    let p = a.placed.now in
    let m = length p.multiplicities.now in
    eight-six _ _ _ _ (at_most n 1024) (at_most m 64)
    (both_alike n (length a.multiplicities.now) (length p.positions.now))
    (prepared_alike m (length p.letters.now) p.spaces.now) (at_most n a.room)
    (c.labels_listed.ensures ∙ list_all-is_all (λ l. ltb l n) a.labels.now)
