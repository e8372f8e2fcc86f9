-- `base_permutation::product_verdict` meets its contract: each return has tested what comes before it.
use mathlib.Core.Path.{◌≡◌, refl, sym, ap, ◌∙◌}
use mathlib.Core.Bool.{not, false, ◌||◌}
use lib.ListN.{length}
use lib.Dec.{eqb}
use borrow.Author.Tests.{lt-ltb, le-ltb, eq-eqb, ne_eqb}
use Rattle.definitions.specs.Calls.{bad_permutation}
use Rattle.std.specs.Prelude.{Err, Ok}
use Rattle.definitions.specs.declared.Refusal.TheVariants.{Counts, SiteImage, Buffer}
use Rattle.definitions.specs.Limits.{too_many_sites}
use Rattle.laws.specs.Verdicts.{untested, is_true, is_false, verdict_of, checked}
use Rattle.laws.specs.Tests.{or_left, or_right, neither}
use Rattle.base_permutation.proofs.product_verdict.Goals as goal
use Rattle.base_permutation.proofs.product_verdict.Goals.{Else-not-is_permutation-2, Else-q-p}

-- past the tests of the lengths, and past those of the images
lengths : (c : Else-q-p)
    → (too_many_sites (length c.args.p.now) || not (eqb (length c.args.q.now) (length c.args.p.now))) ≡ false
lengths c = neither (le-ltb _ _ c.if-p-gt-MOST_SITES.false) (ap not (eq-eqb _ _ c.if-q-p.false))

images : (c : Else-not-is_permutation-2)
    → (bad_permutation c.args.p.now || bad_permutation c.args.q.now) ≡ false
images c =
    neither (ap not (sym c.is_permutation.ensures) ∙ (ap not c.if-not-is_permutation.false))
    (ap not (sym c.is_permutation-2.ensures) ∙ (ap not c.if-not-is_permutation-2.false))

pub returns-then-p-gt-MOST_SITES : goal.returns-then-p-gt-MOST_SITES
unfolding verdict_of
returns-then-p-gt-MOST_SITES c = checked _ (is_true (or_left _ (lt-ltb _ _ c.if-p-gt-MOST_SITES.true)), (untested, (untested, tt))) (Err Counts) refl

pub returns-then-q-p : goal.returns-then-q-p
unfolding verdict_of
returns-then-q-p c = checked _ (is_true (or_right (too_many_sites (length c.args.p.now)) (ap not (ne_eqb _ _ c.if-q-p.true))), (untested, (untested, tt))) (Err Counts) refl

pub returns-then-not-is_permutation : goal.returns-then-not-is_permutation
unfolding verdict_of
returns-then-not-is_permutation c =
    checked _ (is_false (lengths (goal.at.returns-then-not-is_permutation c).Else-q-p), (is_true (or_left _ (ap not (sym c.is_permutation.ensures) ∙ (ap not c.if-not-is_permutation.true))), (untested, tt))) (Err SiteImage) refl

pub returns-then-not-is_permutation-2 : goal.returns-then-not-is_permutation-2
unfolding verdict_of
returns-then-not-is_permutation-2 c =
    checked _ (is_false (lengths (goal.at.returns-then-not-is_permutation-2 c).Else-q-p), (is_true (or_right (bad_permutation c.args.p.now) (ap not (sym c.is_permutation-2.ensures) ∙ (ap not c.if-not-is_permutation-2.true))), (untested, tt))) (Err SiteImage) refl

pub returns-then-room-p : goal.returns-then-room-p
unfolding verdict_of
returns-then-room-p c =
    checked _ (is_false (lengths (goal.at.returns-then-room-p c).Else-q-p), (is_false (images (goal.at.returns-then-room-p c).Else-not-is_permutation-2), (is_true (lt-ltb _ _ c.if-room-p.true), tt))) (Err Buffer) refl

pub returns : goal.returns
unfolding verdict_of
returns c =
    checked _ (is_false (lengths (goal.at.returns c).Else-q-p), (is_false (images (goal.at.returns c).Else-not-is_permutation-2), (is_false (le-ltb _ _ c.if-room-p.false), tt))) (Ok tt) refl
