-- `less_at`: one entry is written, of the value that the definition has there.
use Rattle.std.proofs.Common.{◌≡◌, arith}
use Rattle.std.specs.Prelude.{◌*ℤ◌, ◌-ℤ◌}
use mir.Syntax.{w16, w32, w64}
use mir.Val.{to_z, of_z}
use mir.ValLaws.{to_z-of_z}
use Rattle.definitions.specs.Matrix.{item}
use Rattle.math_matrix.specs.Bounds.{back}
use Rattle.math_matrix.proofs.Shape.{good_item}
use Rattle.math_snf.specs.Step.{kept}
use Rattle.math_snf.proofs.Lines.{set_entry}
use Rattle.math_snf.proofs.less_at.Goals.{After-kept_entry, Start}
use Rattle.math_snf.proofs.less_at.Goals as goal

value : (c : After-kept_entry) → to_z w16 (of_z w16 c.kept_entry.result) ≡ kept (item c.args.x c.args.j.at -ℤ c.args.k *ℤ item c.args.x c.args.s.at)
value c =
    let good = (goal.at.After-kept_entry c).Start.well_formed.0 in
    simp (back w16 c.kept_entry.result c.kept_entry.type_inv)
    (simp (c.kept_entry.ensures)
    (simp (back w64 c.less_times.result c.less_times.type_inv)
    (simp (
      c.less_times.ensures,
      to_z-of_z w32 c.args.k c.ranges.k,
      to_z-of_z w16 _ (good_item w16 c.args.x good c.args.j.at),
      to_z-of_z w16 _ (good_item w16 c.args.x good c.args.s.at),
    ))))

pub returns : goal.returns
returns c = set_entry c.args.x c.well_formed.0.1.0.1 c.args.k c.args.s.at c.args.j.at _ (omega arith) (value c)
