-- `base_permutation::inverse_verdict` meets its contract: each return has tested what comes before it.
use mathlib.Core.Path.{refl, sym, ap, ◌∙◌}
use mathlib.Core.Bool.{not}
use borrow.Author.Tests.{lt-ltb, le-ltb}
use Rattle.std.specs.Prelude.{Err, Ok}
use Rattle.definitions.specs.declared.Refusal.TheVariants.{Counts, SiteImage, Buffer}
use Rattle.laws.specs.Verdicts.{untested, is_true, is_false, verdict_of, checked}
use Rattle.base_permutation.proofs.inverse_verdict.Goals as goal

pub returns-then-p-gt-MOST_SITES : goal.returns-then-p-gt-MOST_SITES
unfolding verdict_of
returns-then-p-gt-MOST_SITES c = checked _ (is_true (lt-ltb _ _ c.if-p-gt-MOST_SITES.true), (untested, (untested, tt))) (Err Counts) refl

pub returns-then-not-is_permutation : goal.returns-then-not-is_permutation
unfolding verdict_of
returns-then-not-is_permutation c =
    checked _ (is_false (le-ltb _ _ c.if-p-gt-MOST_SITES.false), (is_true (ap not (sym c.is_permutation.ensures) ∙ (ap not c.if-not-is_permutation.true)), (untested, tt))) (Err SiteImage) refl

pub returns-then-room-p : goal.returns-then-room-p
unfolding verdict_of
returns-then-room-p c =
    checked _ (is_false (le-ltb _ _ c.if-p-gt-MOST_SITES.false), (is_false (ap not (sym c.is_permutation.ensures) ∙ (ap not c.if-not-is_permutation.false)), (is_true (lt-ltb _ _ c.if-room-p.true), tt))) (Err Buffer) refl

pub returns : goal.returns
unfolding verdict_of
returns c =
    checked _ (is_false (le-ltb _ _ c.if-p-gt-MOST_SITES.false), (is_false (ap not (sym c.is_permutation.ensures) ∙ (ap not c.if-not-is_permutation.false)), (is_false (le-ltb _ _ c.if-room-p.false), tt))) (Ok tt) refl
