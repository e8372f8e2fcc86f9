-- `add_target`: the cells of the images of the sites before j have their addend, and the others are as they were.
use Prim.Native.Nat.{ℕ, ◌*◌, ◌≤◌, ◌<◌}
use mathlib.Core.Path.{◌≡◌, refl, ap, ◌∙◌}
use mathlib.Core.List.{List, []}
use native.Mathlib.Omega.{arith}
use lib.ListN.{length, get_or, length-set}
use Rattle.definitions.specs.Permutation.{image, inverse_image, permutation_at}
use Rattle.laws.specs.Lists.{part_of}
use Rattle.math_real.specs.Rows.{real_is}
use Rattle.symmetrize_positions.specs.Targets.{more}
use Rattle.symmetrize_positions.proofs.Making.{Turns, permuted, make_step, make_end}
use Rattle.symmetrize_positions.proofs.Sums.{more_is}
use Rattle.symmetrize_positions.proofs.targets.Targets.add_target.Goals as goal
use Rattle.symmetrize_positions.proofs.targets.Targets.add_target.Goals.{After-from-i, Start}

abbrev images : Start → List ℕ
images s = let t = s.args.self.now in permutation_at (length t.positions.now) t.images.now s.args.k

turns : (s : Start) → Turns (length s.args.self.now.positions.now) (image (images s)) (inverse_image (images s))
turns s = let t = s.args.self.now in permuted (length t.positions.now) (images s) (t.permuted s.args.k s.requires.0)

-- site j's image, as the code reads it
its_image : (w : After-from-i) → w.from-i.result ≡ image (images (goal.at.After-from-i w).Start) w.loop-j.j
its_image w =
    let t = w.args.self.now in
    let n = length t.positions.now in
    w.from-i.ensures ∙ ap (λ l. get_or l w.loop-j.j 0) (part_of t.images.now n w.args.k (w.args.k * n) refl)

-- an image is a site
below : (w : After-from-i) → w.from-i.result < length w.args.self.now.positions.now
below w =
    let k : w.loop-j.j < length w.args.self.now.positions.now = omega arith in
    omega (arith, its_image w, (turns (goal.at.After-from-i w).Start).below w.loop-j.j k)

in_list : (w : After-from-i) → w.from-i.result < length w.loop-j.out
in_list w = omega (arith, below w)

pub position_at-requires : goal.position_at-requires
position_at-requires c = below (goal.at.position_at-requires c).After-from-i

pub slice_copy_out-grown : goal.slice_copy_out-grown
slice_copy_out-grown c = in_list (goal.at.slice_copy_out-grown c).After-from-i

pub bounds-out-i : goal.bounds-out-i
bounds-out-i c = in_list (goal.at.bounds-out-i c).After-from-i

pub loop-j-preserved : goal.loop-j-preserved
loop-j-preserved c =
    let l = c.loop-j in
    let t = c.args.self.now in
    let ps = t.positions.now in
    let p = images (goal.at.loop-j-preserved c).Start in
    let o = turns (goal.at.loop-j-preserved c).Start in
    let i = c.from-i.result in
    let k : l.j < length ps = omega arith in
    let room : length ps ≤ length l.out = omega arith in
    let at = its_image (goal.at.loop-j-preserved c).After-from-i in
    let its = ap (inverse_image p) at ∙ o.back l.j k in
    let gs = t.rotations.now in
    let vs = t.translations.now in
    let m = c.real-m in
    let to = c.position_at-translation in
    let x =
    more_is ps gs vs t.images.now c.args.k i l.j m.result to.result (get_or l.out i []) _ _ _ _ its (real_is m.ensures) to.ensures
    c.position_at-q.ensures c.position_at.ensures c.displacement-d.ensures c.grown.ensures in (
      simp length-set l.invariant.0,
      make_step (length ps) (image p) (inverse_image p) o (more ps gs vs t.images.now c.args.k)
          c.args.out.now l.out l.j i c.grown.result room k at x l.invariant.1,
    )

pub returns : goal.returns
returns c =
    let l = c.loop-j in
    let t = c.args.self.now in
    let n = length t.positions.now in
    let s = (goal.at.returns c).Start in
    let p = images s in
    make_end n (image p) (inverse_image p) (turns s)
    (more t.positions.now t.rotations.now t.translations.now t.images.now c.args.k)
    c.args.out.now l.out l.j (omega arith) l.invariant.1
