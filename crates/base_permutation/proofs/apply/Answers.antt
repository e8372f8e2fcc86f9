-- `base_permutation::apply` meets its contract: each return has tested what comes before it.
use mathlib.Core.Path.{refl, sym, ap, ◌∙◌}
use mathlib.Core.Bool.{not}
use borrow.Author.Tests.{lt-ltb, le-ltb, le-leb, lt-leb}
use Rattle.definitions.specs.Calls.{bad_permutation}
use Rattle.std.specs.Prelude.{Err, Ok}
use Rattle.definitions.specs.declared.Refusal.TheVariants.{Counts, SiteImage}
use Rattle.laws.specs.Verdicts.{untested, is_true, is_false, verdict_of, checked, refused_with_lem, accepted_with}
use Rattle.laws.specs.Tests.{or_left, or_right, neither}
use Rattle.base_permutation.proofs.apply.Goals as goal

pub returns-then-p-gt-MOST_SITES : goal.returns-then-p-gt-MOST_SITES
unfolding verdict_of
returns-then-p-gt-MOST_SITES c = refused_with_lem _ _ Counts (checked _ (is_true (lt-ltb _ _ c.if-p-gt-MOST_SITES.true), (untested, tt)) (Err Counts) refl)

pub returns-then-not-is_permutation : goal.returns-then-not-is_permutation
unfolding verdict_of
returns-then-not-is_permutation c =
    refused_with_lem _ _ SiteImage
    (checked _ (is_false (le-ltb _ _ c.if-p-gt-MOST_SITES.false), (is_true (or_left _ (ap not (sym c.is_permutation.ensures) ∙ (ap not c.if-not-is_permutation.true))), tt)) (Err SiteImage) refl)

pub returns-then-p-at : goal.returns-then-p-at
unfolding verdict_of
returns-then-p-at c =
    refused_with_lem _ _ SiteImage
    (checked _ (is_false (le-ltb _ _ c.if-p-gt-MOST_SITES.false), (is_true (or_right (bad_permutation c.args.p.now) (le-leb _ _ c.if-p-at.true)), tt)) (Err SiteImage) refl)

pub returns : goal.returns
unfolding verdict_of
returns c =
    accepted_with _ _ c.from.result
    (checked _ (is_false (le-ltb _ _ c.if-p-gt-MOST_SITES.false), (is_false (neither (ap not (sym c.is_permutation.ensures) ∙ (ap not c.if-not-is_permutation.false)) (lt-leb _ _ c.if-p-at.false)), tt)) (Ok tt) refl)
    c.from.ensures
