-- `base_permutation::identity_verdict` meets its contract: each return has tested what comes before it.
use mathlib.Core.Path.{refl}
use borrow.Author.Tests.{lt-ltb, le-ltb}
use Rattle.std.specs.Prelude.{Err, Ok}
use Rattle.definitions.specs.declared.Refusal.TheVariants.{Counts, Buffer}
use Rattle.laws.specs.Verdicts.{untested, is_true, is_false, verdict_of, checked}
use Rattle.base_permutation.proofs.identity_verdict.Goals as goal

pub returns-then-n-gt-MOST_SITES : goal.returns-then-n-gt-MOST_SITES
unfolding verdict_of
returns-then-n-gt-MOST_SITES c = checked _ (is_true (lt-ltb _ _ c.if-n-gt-MOST_SITES.true), (untested, tt)) (Err Counts) refl

pub returns-then-room-n : goal.returns-then-room-n
unfolding verdict_of
returns-then-room-n c = checked _ (is_false (le-ltb _ _ c.if-n-gt-MOST_SITES.false), (is_true (lt-ltb _ _ c.if-room-n.true), tt)) (Err Buffer) refl

pub returns : goal.returns
unfolding verdict_of
returns c = checked _ (is_false (le-ltb _ _ c.if-n-gt-MOST_SITES.false), (is_false (le-ltb _ _ c.if-room-n.false), tt)) (Ok tt) refl
