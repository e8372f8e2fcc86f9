-- `images_room`: each return has tested what comes before it.
use Prim.Native.Nat.{◌≤◌}
use mathlib.Core.Path.{◌≡◌, refl, sym, ◌∙◌}
use mathlib.Core.Bool.{true, false}
use native.Mathlib.Omega.{arith}
use borrow.Author.Tests.{lt-ltb, le-ltb, not-true, not-false}
use Rattle.definitions.specs.Limits.{not_some}
use Rattle.laws.specs.Limits.{few_entries}
use Rattle.symmetrize_standardize.proofs.General.{pick_here, pick_next}
use Rattle.symmetrize_standardize.proofs.verdicts.images_room.Goals as goal
use Rattle.symmetrize_standardize.proofs.verdicts.images_room.Goals.{Else-not-is_some_count}

-- from 1 to 96 targets
some : (c : Else-not-is_some_count) → not_some c.args.targets ≡ false
some c = not-true _ (sym c.is_some_count.ensures ∙ c.if-not-is_some_count.false)

pub returns-then-sites-gt-MOST_SITES : goal.returns-then-sites-gt-MOST_SITES
returns-then-sites-gt-MOST_SITES c = pick_here _ _ _ (lt-ltb _ _ c.if-sites-gt-MOST_SITES.true)

pub returns-then-not-is_some_count : goal.returns-then-not-is_some_count
returns-then-not-is_some_count c =
    let none : not_some c.args.targets ≡ true = not-false _ (sym c.is_some_count.ensures ∙ c.if-not-is_some_count.true) in
    pick_next _ _ _ _ (le-ltb _ _ c.if-sites-gt-MOST_SITES.false) (pick_here _ _ _ none)

pub overflow_mul-result : goal.overflow_mul-result
overflow_mul-result c =
    let a = c.args in
    let h : a.sites ≤ 256 = c.if-sites-gt-MOST_SITES.false in
    omega (arith, few_entries a.sites a.targets (some c) h)

pub returns : goal.returns
returns c = pick_next _ _ _ _ (le-ltb _ _ c.if-sites-gt-MOST_SITES.false) (pick_next _ _ _ _ (some c) refl)

pub is_some_count-requires : goal.is_some_count-requires
is_some_count-requires c = tt
