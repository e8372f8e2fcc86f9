-- `add_targets`: the sums over the targets before k.
use mathlib.Core.Path.{◌∙◌}
use native.Mathlib.Omega.{arith}
use borrow.Author.Rules.{rules}
use Rattle.symmetrize_positions.proofs.Sums.{sums_more, sums_all}
use Rattle.symmetrize_positions.proofs.targets.Targets.add_targets.Goals as goal

pub loop-k-preserved : goal.loop-k-preserved
loop-k-preserved c =
    let l = c.loop-k in
    let t = c.args.self.now in
    let h = c.loop-k-test.true in (
      search rules,
      c.add_target.ensures.rest ∙ l.invariant.1,
      sums_more t.positions.now t.rotations.now t.translations.now t.images.now l.k l.out c.add_target.new.out
          t.counted.translations h (t.permuted l.k h) c.add_target.ensures l.invariant.2,
    )

pub returns : goal.returns
returns c =
    let l = c.loop-k in
    let t = c.args.self.now in
    sums_all t.positions.now t.rotations.now t.translations.now t.images.now l.k l.out c.args.out.now
    t.counted.translations (omega arith) l.invariant.1 l.invariant.2
