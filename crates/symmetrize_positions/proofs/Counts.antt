-- What the tests of the counts say.
use Prim.Native.Nat.{ℕ, ◌*◌}
use mathlib.Core.Path.{◌≡◌, refl}
use mathlib.Core.Bool.{Bool, true, false, not, ◌||◌}
use lib.Dec.{eqb}
use borrow.Author.Tests.{ltb-false, eqb-true, not-false}
use Rattle.definitions.specs.Limits.{not_some, too_many_sites}
use Rattle.symmetrize_positions.specs.Targets.{Counted}
use Rattle.laws.specs.Limits.{few}
use Rattle.laws.specs.Tests.{neither_left, neither_right}

module _ (n k v m : ℕ) where
  abbrev pub bad : Bool
  bad = too_many_sites n || not_some k || not (eqb v k) || not (eqb m (k * n))

  pub counted : bad ≡ false → Counted n k v m
  counted e =
      let large = too_many_sites n in
      let some = not_some k in
      let unlike = not (eqb v k) in
      let three = neither_left (large || some || unlike) (not (eqb m (k * n))) e in
      let two = neither_left (large || some) unlike three in
      record {
        sites = ltb-false 256 n (neither_left large some two);
        targets = few k (neither_right large some two);
        translations = eqb-true v k (not-false _ (neither_right (large || some) unlike three));
        images = eqb-true m (k * n) (not-false _ (neither_right (large || some || unlike) (not (eqb m (k * n))) e));
      }

-- the code tests the images before the translations
pub last_two : (a b c : Bool) → (a || c || b) ≡ (a || b || c)
last_two true b c = refl
last_two false true true = refl
last_two false true false = refl
last_two false false true = refl
last_two false false false = refl
