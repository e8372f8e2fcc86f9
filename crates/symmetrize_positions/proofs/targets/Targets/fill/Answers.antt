-- `fill`: the sums grow from zero in a cleared list, and become means.
use mathlib.Core.Path.{◌≡◌}
use lib.ListN.{length}
use borrow.Author.Rules.{rules}
use Rattle.symmetrize_positions.proofs.Cells.{filled}
use Rattle.symmetrize_positions.proofs.targets.Targets.fill.Goals as goal

pub returns : goal.returns
returns c =
    let a = c.args in
    let t = a.self.now in
    let long : length c.put_means.new.out ≡ length a.out.now = search rules in
    filled t.positions.now t.rotations.now t.translations.now t.images.now t.counted.translations a.out.now _ _
    c.put_means.new.out c.requires long c.clear.ensures c.add_targets.ensures c.put_means.ensures
