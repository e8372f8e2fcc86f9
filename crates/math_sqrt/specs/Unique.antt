-- `IsSqrt` has one answer.
use Rattle.std.specs.Prelude.{ℕ, zero, suc, ◌+◌, ◌*◌, ◌-◌, ◌<◌, ◌^◌, ◌/◌, ◌≡◌, Bool, true, false, cond, T, Float}
use Rattle.std.proofs.Common.{sym, ap, ◌∙◌, subst, arith, add_comm, lt_irrefl, lt_trans}
use Rattle.std.proofs.Math.Path.{ap₂}
use Rattle.std.specs.Float.{nan, inf, fin, binary64}
use Rattle.std.specs.Float.Ieee.{size, fits, of_bits, to_bits}
use Rattle.std.specs.Float.Ieee.Bits.{of_bits-to_bits}
use Rattle.definitions.specs.Real.{units_of, is_finite, negative, NearestRoot, IsSqrt}

-- the pattern of a finite float, and so the float, is known by its sign and its units
units_unique : (x y : Float) → T (fits binary64 x) → T (fits binary64 y) → T (is_finite x) → T (is_finite y) → negative x ≡ negative y → units_of x ≡ units_of y → x ≡ y
units_unique x y f g h k s u = sym (of_bits-to_bits binary64 x f) ∙ ap (of_bits binary64) (by x y h k s u) ∙ of_bits-to_bits binary64 y g
  where
    pattern : Bool → ℕ → ℕ
    pattern s n = cond s (2 ^ 63) 0 + (size n - 53) * 2 ^ 52 + n / 2 ^ (size n - 53)

    by : (x y : Float) → T (is_finite x) → T (is_finite y) → negative x ≡ negative y → units_of x ≡ units_of y → to_bits binary64 x ≡ to_bits binary64 y
    by nan y h k s u = absurd h
    by (inf t) y h k s u = absurd h
    by (fin t m e) nan h k s u = absurd k
    by (fin t m e) (inf v) h k s u = absurd k
    by (fin t m e) (fin v n d) h k s u = unfold to_bits units_of in ap₂ pattern s u

nearest_not_below : (x r s : Float) → NearestRoot x r → NearestRoot x s → units_of r < units_of s → ⊥
nearest_not_below x r s h k l =
    lt_irrefl (4 * (units_of x * 2 ^ 1074))
    (lt_trans (h.above s k.fit k.finite l) (subst (λ (a : ℕ). a ^ 2 < 4 * (units_of x * 2 ^ 1074)) (add_comm (units_of s) (units_of r)) (k.below r h.fit h.finite l)))

nearest_unique : (x r s : Float) → NearestRoot x r → NearestRoot x s → r ≡ s
nearest_unique x r s h k =
    let a = nearest_not_below x r s h k in
    let b = nearest_not_below x s r k h in
    units_unique r s h.fit k.fit h.finite k.finite (h.sign ∙ sym k.sign) (omega (arith, a, b))

pub sqrt_unique : (x r s : Float) → IsSqrt x r → IsSqrt x s → r ≡ s
unfolding IsSqrt
sqrt_unique nan r s h k = h ∙ sym k
sqrt_unique (inf false) r s h k = h ∙ sym k
sqrt_unique (inf true) r s h k = h ∙ sym k
sqrt_unique (fin t zero e) r s h k = h ∙ sym k
sqrt_unique (fin false (suc m) e) r s h k = nearest_unique (fin false (suc m) e) r s h k
sqrt_unique (fin true (suc m) e) r s h k = h ∙ sym k
