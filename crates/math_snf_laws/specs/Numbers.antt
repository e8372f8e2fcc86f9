-- Quotients cut toward 0, and what they leave.
use Rattle.std.specs.Prelude.{ℕ, zero, suc, ◌*◌, ◌/◌, ◌%◌, ◌<◌, ◌≡◌, refl, [], ◌∷◌, ℤ, pos, negsuc, neg_ℤ, nat_abs, ◌+ℤ◌, ◌-ℤ◌, ◌*ℤ◌}
use Rattle.std.proofs.Common.{sym, ap, ◌∙◌, arith, div-add-mod', div-lt_iff_lt-mul, mod-lt}
use Rattle.std.proofs.Math.IntN.{neg_ℤ-+ℤ}
use Rattle.std.specs.Int.Signed.{quot_z, rem_z}
use Rattle.math_matrix.specs.Ring.{neg_*ℤ}
use Rattle.math_matrix.specs.Bounds.{abs_neg}
use Rattle.math_matrix.specs.Solve.{var, ◌⊕◌, ◌⊖◌, solve}
use Rattle.math_snf_laws.specs.Pivot.{Big}

pub none_is : (z : ℤ) → nat_abs z ≡ 0 → z ≡ pos 0
none_is (pos n) e = ap pos e
none_is (negsuc n) e = absurd (omega arith)

-- below n, and 0 or at least n
pub big_none : {n : ℕ} (z : ℤ) → Big n (nat_abs z) → nat_abs z < n → z ≡ pos 0
big_none (pos zero) b l = refl
big_none (pos (suc k)) b l = absurd (omega (arith, b (omega arith)))
big_none (negsuc k) b l = absurd (omega (arith, b (omega arith)))

abs_quot : (a : ℤ) (n : ℕ) → nat_abs (quot_z a (pos n)) ≡ nat_abs a / n
abs_quot (pos a) n = refl
abs_quot (negsuc a) n = abs_neg (pos (suc a / n))

pub quot_none : (a : ℤ) (n : ℕ) → 0 < n → nat_abs (quot_z a (pos n)) ≡ 0 → nat_abs a < n
quot_none a n h e = let l = (div-lt_iff_lt-mul {k = n} {x = nat_abs a} {y = 1} h).0 (omega (arith, abs_quot a n)) in omega arith

divided : (a : ℤ) (n : ℕ) → quot_z a (pos n) *ℤ pos n +ℤ rem_z a (pos n) ≡ a
divided (pos a) n = ap pos (div-add-mod' a n)
divided (negsuc a) n =
    ap (λ z. z +ℤ neg_ℤ (pos (suc a % n))) (neg_*ℤ (pos (suc a / n)) (pos n))
    ∙ sym (neg_ℤ-+ℤ (pos (suc a / n * n)) (pos (suc a % n)))
    ∙ ap (λ (k : ℕ). neg_ℤ (pos k)) (div-add-mod' (suc a) n)

abs_rem : (a : ℤ) (n : ℕ) → nat_abs (rem_z a (pos n)) ≡ nat_abs a % n
abs_rem (pos a) n = refl
abs_rem (negsuc a) n = abs_neg (pos (suc a % n))

pub rest : (a : ℤ) (n : ℕ) → 0 < n → nat_abs (a -ℤ quot_z a (pos n) *ℤ pos n) < n
rest a n h =
    let q = quot_z a (pos n) *ℤ pos n in
    let e = ap (λ z. z -ℤ q) (sym (divided a n)) ∙ solve (q ∷ rem_z a (pos n) ∷ []) (var 0 ⊕ var 1 ⊖ var 0) (var 1) tt in
    omega (arith, ap nat_abs e, abs_rem a n, mod-lt (nat_abs a) h)
