-- How large whole numbers are, and that what fits a width is read as it was stored.
use Rattle.std.specs.Prelude.{ℕ, suc, zero, ◌+◌, ◌*◌, ◌-◌, ◌≤◌, ◌<◌, ◌^◌, ◌≡◌, refl, Bool, true, false, cond, ℤ, pos, negsuc, neg_ℤ, nat_abs, ◌+ℤ◌, ◌-ℤ◌, ◌*ℤ◌, ltb}
use Rattle.std.proofs.Common.{ap, ◌∙◌, arith, mul-le-mul, ltb-true, ltb-false}
use Rattle.std.proofs.Math.IntN.{+ℤ_idl}
use Rattle.std.specs.Int.Signed.{mag}
use Rattle.std.specs.Int.{Width}
use mir.Val.{SFits, hbits, to_z, of_z}
use Rattle.std.proofs.lemmas.Int.{to_z-of_z}

pub abs_neg : (z : ℤ) → nat_abs (neg_ℤ z) ≡ nat_abs z
abs_neg (pos zero) = refl
abs_neg (pos (suc n)) = refl
abs_neg (negsuc n) = refl

-- the other sign keeps the magnitude
pub abs_minus : (z : ℤ) → nat_abs (pos 0 -ℤ z) ≡ nat_abs z
abs_minus z = ap nat_abs (+ℤ_idl (neg_ℤ z)) ∙ abs_neg z

-- |a b| = |a| |b|
pub abs-mul : (a b : ℤ) → nat_abs (a *ℤ b) ≡ nat_abs a * nat_abs b
abs-mul (pos a) (pos b) = refl
abs-mul (pos a) (negsuc b) = abs_neg (pos (a * suc b))
abs-mul (negsuc a) (pos b) = abs_neg (pos (suc a * b))
abs-mul (negsuc a) (negsuc b) = refl

sub_by : (a b n : ℕ) (t : Bool) → a ≤ n → b ≤ n → ltb a b ≡ t → nat_abs (cond t (negsuc (b - suc a)) (pos (a - b))) ≤ n
sub_by a b n true f g e = let h : a < b = ltb-true a b e in omega arith
sub_by a b n false f g e = let h : b ≤ a = ltb-false a b e in omega arith

-- numbers of one sign differ by less than the greater
pub abs_less : (a b n : ℕ) → a ≤ n → b ≤ n → nat_abs (pos a -ℤ pos b) ≤ n
abs_less a zero n f g = omega arith
abs_less a (suc b) n f g = sub_by a (suc b) n (ltb a (suc b)) f g refl

-- |a + b| is at most |a| + |b|
pub abs-add : (a b : ℤ) → nat_abs (a +ℤ b) ≤ nat_abs a + nat_abs b
abs-add (pos a) (pos b) = omega arith
abs-add (pos a) (negsuc b) = sub_by a (suc b) (a + suc b) (ltb a (suc b)) (omega arith) (omega arith) refl
abs-add (negsuc a) (pos b) = sub_by b (suc a) (suc a + b) (ltb b (suc a)) (omega arith) (omega arith) refl
abs-add (negsuc a) (negsuc b) = omega arith

pub abs-sub : (a b : ℤ) → nat_abs (a -ℤ b) ≤ nat_abs a + nat_abs b
abs-sub a b = omega (arith, abs-add a (neg_ℤ b), abs_neg b)

pub abs-mul_le : (a b : ℤ) (m n : ℕ) → nat_abs a ≤ m → nat_abs b ≤ n → nat_abs (a *ℤ b) ≤ m * n
abs-mul_le a b m n h k = rw abs-mul (mul-le-mul h k)

pub mag_abs : (z : ℤ) → (mag z ≤ nat_abs z) × (nat_abs z ≤ mag z + 1)
mag_abs (pos n) = omega arith
mag_abs (negsuc n) = omega arith

-- a number below half the width's power fits
pub fits_abs : (w : Width) (z : ℤ) → nat_abs z < 2 ^ hbits w → SFits w z
fits_abs w z h = record { sfits = omega (arith, mag_abs z) }

pub abs_fits : (w : Width) (z : ℤ) → SFits w z → nat_abs z ≤ 2 ^ hbits w
abs_fits w z h = omega (arith, mag_abs z, h.sfits)

pub fits_of : (w : Width) (z : ℤ) → mag z < 2 ^ hbits w → SFits w z
fits_of w z h = record { sfits = h }

-- what fits is read as it was stored
pub back : (w : Width) (z : ℤ) → mag z < 2 ^ hbits w → to_z w (of_z w z) ≡ z
back w z h = to_z-of_z w z (fits_of w z h)
