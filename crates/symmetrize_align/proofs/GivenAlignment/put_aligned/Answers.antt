-- `put_aligned`: the permutations of the first i targets are written, and none of them was absent.
use Prim.Native.Nat.{ℕ, ◌+◌, ◌-◌, ◌*◌, ◌≤◌}
use mathlib.Core.Path.{◌≡◌, refl, sym, ap, ◌∙◌}
use mathlib.Core.Bool.{Bool}
use mathlib.Core.List.{[]}
use mathlib.Core.Option.{some}
use native.Mathlib.Omega.{arith}
use lib.ListN.{length, get_or}
use borrow.Rule.Slice.PartMut.{same_len_mid}
use Rattle.definitions.specs.Matrix.{Matrix}
use Rattle.definitions.specs.Transformation.{is_none}
use Rattle.laws.specs.Lists.{part_room}
use Rattle.laws.specs.Verdicts.{passed_on}
use Rattle.symmetrize_align.specs.Aligning.{last_of, aligned_by, Put}
use Rattle.symmetrize_align.proofs.Search.{found_at, found_below, absent}
use Rattle.symmetrize_align.proofs.Fronts.{front_none, front_next, front_long, front_all}
use Rattle.symmetrize_align.proofs.Fronts.{any_here, any_later, any-over, part_is, part_long}
use Rattle.symmetrize_align.proofs.GivenAlignment.put_aligned.Goals as goal
use Rattle.symmetrize_align.proofs.GivenAlignment.put_aligned.Goals.{At-loop-i, In_ok-k, Start}

pub loop-i-init : goal.loop-i-init
loop-i-init c =
    let a = c.args in
    let images = a.self.now.operations.images.now in
    let n = a.self.now.operations.sites in
    let f = aligned_by a.moved.now images n in
    (refl, front_none f a.self.now.targets.now [] a.out.now n, refl)

pub returns-in_err-k : goal.returns-in_err-k
returns-in_err-k c =
    let l = c.loop-i in
    let a = c.args in
    let images = a.self.now.operations.images.now in
    let n = a.self.now.operations.sites in
    let lost : Matrix → Bool = λ g. is_none (last_of a.moved.now g) in
    let here = absent (last_of a.moved.now (get_or a.self.now.targets.now l.i [])) _ _ _ c.in_err-k.ensures.value c.last_place.ensures in
    passed_on (Put a.moved.now images n a.self.now.targets.now a.out.now l.out) _ _ c.from_residual.ensures.1
    (here.0, sym l.invariant.2 ∙ any_here lost [] a.self.now.targets.now l.i (omega arith) here.1)

-- ---- the place k that was found

module _ (c : In_ok-k) where
  abbrev start : Start
  start = (goal.at.In_ok-k c).Start

  abbrev turn : At-loop-i
  turn = (goal.at.In_ok-k c).At-loop-i

  abbrev k : ℕ
  k = c.in_ok-k.k

  place : last_of start.args.moved.now (get_or start.args.self.now.targets.now turn.loop-i.i []) ≡ some k
  place = found_at start.args.moved.now (get_or start.args.self.now.targets.now turn.loop-i.i []) k _ _ c.in_ok-k.ensures.value c.last_place.ensures

  -- its permutation is within the list of them, and the target's part within the answer
  from_fits : let o = start.args.self.now.operations in k * o.sites + o.sites ≤ length o.images.now
  from_fits =
      let a = start.args in
      let o = a.self.now.operations in
      let h = found_below a.moved.now (get_or a.self.now.targets.now turn.loop-i.i []) k place in
      part_room k (length a.moved.now) o.sites (length o.images.now) h start.requires.0

pub overflow_mul-from : goal.overflow_mul-from
overflow_mul-from c = omega (arith, from_fits c)

pub overflow_add-part : goal.overflow_add-part
overflow_add-part c = omega (arith, from_fits (goal.at.overflow_add-part c).In_ok-k)

pub slice_bounds-part-end : goal.slice_bounds-part-end
slice_bounds-part-end c = omega (arith, from_fits (goal.at.slice_bounds-part-end c).In_ok-k)

pub loop-i-preserved : goal.loop-i-preserved
loop-i-preserved c =
    let s = (goal.at.loop-i-preserved c).In_ok-k in
    let a = c.args in
    let images = a.self.now.operations.images.now in
    let n = a.self.now.operations.sites in
    let l = c.loop-i in
    let f = aligned_by a.moved.now images n in
    let from = k s * n in
    let after = c.copy.ensures in
    let lost : Matrix → Bool = λ g. is_none (last_of a.moved.now g) in (
      same_len_mid (l.i * n) (l.i * n + n - l.i * n) l.out c.copy.new.out c.copy.auto.out ∙ l.invariant.0,
      front_next f a.self.now.targets.now [] a.out.now l.invariant.1 (omega arith) c.copy.new.out
          (after ∙ part_is images n (k s) from refl _ (place s))
          (ap length after ∙ part_long images n from (from_fits s)),
      sym (any_later lost [] a.self.now.targets.now l.i (omega arith) (ap is_none (place s))) ∙ l.invariant.2,
    )

pub returns : goal.returns
returns c =
    let l = c.loop-i in
    let a = c.args in
    let images = a.self.now.operations.images.now in
    let n = a.self.now.operations.sites in
    let f = aligned_by a.moved.now images n in
    let all : l.i ≡ length a.self.now.targets.now = omega arith in
    let size = ap (λ i. i * n) all in
    let lost : Matrix → Bool = λ g. is_none (last_of a.moved.now g) in (
      sym l.invariant.2 ∙ any-over lost [] a.self.now.targets.now l.i (omega arith),
      front_long f a.self.now.targets.now [] a.out.now l.invariant.1 (omega arith) size,
      front_all f a.self.now.targets.now [] a.out.now l.invariant.1 (omega arith) size,
    )
