-- `group_sites_by_orbit`: what is written first is the labels, so what is counted is how many sites have each.
use Prim.Native.Nat.{ℕ, ◌≤◌}
use mathlib.Core.Path.{◌≡◌, refl, sym, ap, subst}
use mathlib.Core.List.{List}
use native.Mathlib.Omega.{arith}
use lib.ListN.{length, take}
use Rattle.definitions.specs.SiteCalls.{permutations_in}
use Rattle.base_cell.specs.Given.{arguments_of}
use Rattle.base_cell.specs.Labels.{labels_by, length-labels_by}
use Rattle.base_cell.specs.Grouping.{Below}
use Rattle.base_cell.proofs.Groups.{wider, labels_below, front, grouped}
use Rattle.base_cell.proofs.labels.Grouping.group_sites_by_orbit.Goals as goal
use Rattle.base_cell.proofs.labels.Grouping.group_sites_by_orbit.Goals.{After-put_labels, Start}

module _ (s : Start) where
  abbrev mapping : List ℕ
  mapping = s.args.self.now.labelling.mapping.now

  -- the mapped sites are sites of the forest
  inside : Below 256 mapping
  inside = let g = s.args.self.now.groupable in wider s.args.self.now.labelling.sites 256 mapping g.sites g.within

module _ (c : After-put_labels) where
  abbrev start : Start
  start = (goal.at.After-put_labels c).Start

  abbrev ls : List ℕ
  ls = labels_by c.orbits_from_permutations-roots.result (mapping start)

  long : length ls ≡ length (mapping start)
  long = length-labels_by c.orbits_from_permutations-roots.result (mapping start)

  -- the labels as they come back
  written : take (length (mapping start)) c.put_labels.new.labels ≡ ls
  written =
      let roots = c.orbits_from_permutations-roots in
      front 256 (permutations_in (arguments_of c.args.self.now.labelling)) roots.result (mapping start) roots.ensures
      (inside start) c.args.labels.now c.put_labels.new.labels c.put_labels.ensures

  -- they are places of the table of counts
  small : Below 1024 ls
  small =
      let roots = c.orbits_from_permutations-roots in
      labels_below 256 (permutations_in (arguments_of c.args.self.now.labelling)) roots.result (mapping start)
      roots.ensures (inside start) 1024 c.args.self.now.groupable.listed

pub count_sites-requires : goal.count_sites-requires
count_sites-requires c =
    let w = (goal.at.count_sites-requires c).After-put_labels in
    let (below, few) = subst
    (λ l. Below 1024 l × (length l ≤ 1024))
    (sym (written w))
    (small w, omega (arith, long w, c.args.self.now.groupable.listed)) in
    (below, few, refl)

pub put_multiplicities-requires : goal.put_multiplicities-requires
put_multiplicities-requires c =
    let w = (goal.at.put_multiplicities-requires c).After-put_labels in (
      subst (Below 1024) (sym (written w)) (small w),
      c.count_sites.ensures,
      omega (arith, ap length (written w), long w, c.requires.multiplicities),
    )

pub returns : goal.returns
returns c =
    let a = c.args in
    let s = (goal.at.returns c).Start in
    let roots = c.orbits_from_permutations-roots in
    grouped 256 (permutations_in (arguments_of a.self.now.labelling)) roots.result (mapping s) roots.ensures (inside s)
    a.labels.now c.put_labels.new.labels c.put_labels.ensures
    a.multiplicities.now c.put_multiplicities.new.out c.put_multiplicities.ensures
