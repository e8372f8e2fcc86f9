-- A float between -1 and 1 is its own remainder modulo 1, also a zero with its sign.
use Prim.Native.Nat.{ℕ, ◌*◌, ◌%◌, ◌<◌}
use mathlib.Core.Path.{◌≡◌, refl, ap, ◌∙◌}
use mathlib.Core.Bool.{Bool, true, false}
use native.Mathlib.Nat.{mul-one, mod-eq_of_lt}
use lib.Dec.{T}
use lib.IntN.{ℤ, pos}
use lib.Ieee.{Float, nan, inf, fin, binary64, up, down, round, rem, lt, fits}
use lib.Ieee.Fits.{round-fits}
use borrow.Author.Tests.{ltb-true}
use Rattle.laws.specs.Floats.{by_value, own_value}

-- ---- a float below 1 is its own remainder

own_rem :
    (s : Bool) (m : ℕ) (e : ℤ) → T (fits binary64 (fin s m e)) → m * up e * 1 < 1 * 1 * down e →
    round binary64 s (m * up e * 1 % (1 * 1 * down e)) (down e * 1) ≡ fin s m e
own_rem s m e f h =
    ap (λ (n : ℕ). round binary64 s n (down e * 1)) (mod-eq_of_lt h ∙ mul-one (m * up e))
    ∙ ap (round binary64 s (m * up e)) (mul-one (down e))
    ∙ by_value (round binary64 s (m * up e) (down e)) s m e (round-fits binary64 s (m * up e) (down e)) f
    (own_value s m e f)

pub below_one :
    (x : Float) → T (fits binary64 x) → lt (fin true 1 (pos 0)) x ≡ true → lt x (fin false 1 (pos 0)) ≡ true →
    rem binary64 x (fin false 1 (pos 0)) ≡ x
unfolding rem lt
below_one nan f a b = refl
below_one (inf true) f a b = cc
below_one (inf false) f a b = cc
below_one (fin true m e) f a b = own_rem true m e f (ltb-true (m * up e * 1) (1 * 1 * down e) a)
below_one (fin false m e) f a b = own_rem false m e f (ltb-true (m * up e * 1) (1 * 1 * down e) b)
