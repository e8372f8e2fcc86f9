-- `put_moved` meets its contract: one for all where D is zero, or three rows divided, then R, then M.
use mathlib.Core.Path.{sym, ◌∙◌}
use Rattle.symmetrize_match.proofs.Columns.{alike, fixed, moved}
use Rattle.symmetrize_match.proofs.moved.put_moved.Goals as goal

pub returns-then-is_zero : goal.returns-then-is_zero
returns-then-is_zero g c =
    let a = c.args in
    let o = a.offsets.now in
    let m = c.moved_origin-m.result in
    fixed a.space.now a.p g.row.N o.x o.y o.z
    (sym c.is_zero.ensures ∙ c.if-is_zero.true)
    m _ _ _ c.moved_origin-m.ensures (alike g.row.N m.x) (alike g.row.N m.y) (alike g.row.N m.z)

pub returns : goal.returns
returns g c =
    let a = c.args in
    let o = a.offsets.now in
    moved a.space.now a.p g.row.N o.x o.y o.z _ _ _ _ _ _ _ _ _
    c.divide_row.ensures c.divide_row-2.ensures c.divide_row-3.ensures c.apply_all.ensures c.apply_all-2.ensures
