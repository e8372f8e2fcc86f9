-- The entry of each place is its site's copy at its point.
use Rattle.std.proofs.Common.{◌≡◌, List, [], ℤ, length, get_or, rules, sym, ◌∙◌}
use lib.ListN.{length-map}
use lib.Ieee.{Float}
use Rattle.definitions.specs.Lists.{each}
use Rattle.definitions.specs.Lent.{position_from}
use Rattle.definitions.specs.Real.{RealMatrix}
use Rattle.laws.specs.Lists.{length-each, each_at, map_at}
use Rattle.base_transformation.specs.Runs.{copy_cells, run_cells}
use Rattle.base_transformation.proofs.cell.list_positions.Goals as goal

-- a run has a copy at each point
size : (inverse : RealMatrix) (fs : List (List ℤ)) (v : List Float) → length (run_cells inverse fs v) ≡ length fs
size inverse fs v = length-map fs (copy_cells inverse (position_from v))

pub returns : goal.returns
returns c =
    let a = c.args in
    let fs = a.points.now in
    let ps = a.positions.now in
    let f = run_cells a.inverse fs in
    c.list_runs.ensures (each f ps) (length-each f (length fs) (size a.inverse fs) ps)
    (λ i k x h g p.
    let copy = copy_cells a.inverse (position_from (get_or ps i [])) in
    let e : x ≡ copy (get_or fs k []) = search rules in
    e ∙ sym (each_at f (length fs) (size a.inverse fs) ps i k [] x h g ∙ map_at copy fs k [] x g))
