-- `base_permutation::all_marked` meets its contract: the cells read so far are all marked, or not.
use Rattle.std.proofs.Common.{refl, arith}
use Rattle.definitions.specs.Lists.{all}
use Rattle.base_permutation.proofs.Marks.{all_more}
use Rattle.base_permutation.proofs.all_marked.Goals as goal

pub loop-mark-init : goal.loop-mark-init
unfolding all
loop-mark-init c = refl

pub loop-mark-preserved : goal.loop-mark-preserved
loop-mark-preserved c =
    let l = c.loop-mark in
    all_more (λ m. m) c.args.marks.now l.mark-index l.whole l.invariant (omega arith)
