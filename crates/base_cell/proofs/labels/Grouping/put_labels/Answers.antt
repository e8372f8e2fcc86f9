-- `put_labels`: the labels of the sites before j are written, and the table has the first of them of each class.
use Rattle.std.proofs.Common.{ℕ, ◌<◌, ◌≡◌, refl, sym, ap, subst, ◌∙◌, arith, length, get_or, length-set}
use Rattle.laws.specs.Filling.{put_step, put_end}
use Rattle.std.proofs.Math.ListN.{length-map}
use Rattle.laws.specs.Lists.{map_at}
use Rattle.base_cell.specs.Labels.{First, classes_of, labels_by, length-labels_by, labels_by_at}
use Rattle.base_cell.proofs.Firsts.{nothing_yet, first_of, noted_more}
use Rattle.base_cell.proofs.labels.Grouping.put_labels.Goals as goal

pub loop-j-init : goal.loop-j-init
loop-j-init c =
    let a = c.args in
    (refl, nothing_yet (classes_of a.roots.now a.self.now.labelling.mapping.now) 256, refl)

pub loop-j-preserved : goal.loop-j-preserved
loop-j-preserved c =
    let l = c.loop-j in
    let roots = c.args.roots.now in
    let g = c.args.self.now in
    let mapping = g.labelling.mapping.now in
    let ds = classes_of roots mapping in
    let r = c.root_of-root.result.0 in
    let label = c.first_or-label.result.0 in
    let class = λ (s : ℕ). get_or roots s 0 in
    let hj : l.j < length mapping = omega arith in
    let hk : l.j < length ds = omega (arith, length-map mapping class) in
    let hr : r < 256 = c.root_of-root.ensures.1 in
    let is : r ≡ get_or ds l.j 0 =
    c.root_of-root.ensures.0 ∙ ap class c.from-i.ensures ∙ sym (map_at class mapping l.j 0 0 hj) in
    let first = first_of ds 256 l.j l.first l.invariant.1 hk r hr is label c.first_or-label.ensures in
    let right = labels_by_at roots mapping l.j label hj (subst (λ k. First k ds label) is first.0) in (
      simp length-set l.invariant.0,
      noted_more ds 256 l.j l.first l.invariant.1 hk r hr is label first l.invariant.0,
      put_step 0 (labels_by roots mapping) c.args.labels.now l.labels l.j label l.invariant.2
          (omega (arith, length-labels_by roots mapping)) (omega (arith, c.requires)) right,
    )

pub returns : goal.returns
returns c =
    let l = c.loop-j in
    let a = c.args in
    let mapping = a.self.now.labelling.mapping.now in
    put_end 0 (labels_by a.roots.now mapping) a.labels.now l.labels l.j (length mapping) l.invariant.2
    (length-labels_by a.roots.now mapping) (omega arith)
