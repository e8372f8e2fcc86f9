-- Whole numbers modulo a natural number n: each is just one of 0 to n - 1.
use Rattle.std.specs.Prelude.{ℕ, zero, suc, ◌+◌, ◌*◌, ◌-◌, ◌/◌, ◌%◌, ◌<◌, ◌≡◌, [], ◌∷◌, ℤ, pos, negsuc, neg_ℤ, nat_abs, ◌+ℤ◌, ◌-ℤ◌, ◌*ℤ◌}
use Rattle.std.proofs.Common.{sym, ap, ◌∙◌, mod-lt, arith}
use Rattle.std.proofs.Math.Nat.{div-add-mod}
use Rattle.std.proofs.Math.IntN.{ -ℤ-+ℤ_cancel}
use Rattle.math_matrix.specs.Solve.{var, ◌⊕◌, ◌⊖◌, ◌⊗◌, minus, solve}

-- z modulo n, not negative
abbrev pub residue : ℤ → ℕ → ℕ
residue (pos m) n = m % n
residue (negsuc m) n = n - suc (m % n)

-- how many n are left
abbrev pub quotient : ℤ → ℕ → ℤ
quotient (pos m) n = pos (m / n)
quotient (negsuc m) n = negsuc (m / n)

pub residue_below : (z : ℤ) (n : ℕ) → 0 < n → residue z n < n
residue_below (pos m) n h = mod-lt m h
residue_below (negsuc m) n h = omega arith

-- z - f = n q where f + n q = z
moved : (f p z : ℤ) → f +ℤ p ≡ z → z -ℤ f ≡ p
moved f p z e = ap (λ x. x -ℤ f) (sym e) ∙ solve (f ∷ p ∷ []) (var 0 ⊕ var 1 ⊖ var 0) (var 1) tt

lost : (f y : ℤ) → f -ℤ (f +ℤ y) ≡ neg_ℤ y
lost f y = solve (f ∷ y ∷ []) (var 0 ⊖ (var 0 ⊕ var 1)) (minus (var 1)) tt

whole : (z : ℤ) (n : ℕ) → 0 < n → pos (residue z n) +ℤ pos n *ℤ quotient z n ≡ z
whole (pos m) n h = let o : m % n + n * (m / n) ≡ m = omega (arith, div-add-mod m n) in ap pos o
whole (negsuc m) n h =
    let o : n * suc (m / n) ≡ (n - suc (m % n)) + suc m = omega (arith, div-add-mod m n, mod-lt m h) in
    ap (λ (k : ℕ). pos (n - suc (m % n)) -ℤ pos k) o ∙ lost (pos (n - suc (m % n))) (pos (suc m))

pub residue-quotient : (z : ℤ) (n : ℕ) → 0 < n → z -ℤ pos (residue z n) ≡ pos n *ℤ quotient z n
residue-quotient z n h = moved (pos (residue z n)) (pos n *ℤ quotient z n) z (whole z n h)

near : (f g n : ℕ) (k : ℤ) → f < n → g < n → pos f ≡ pos g +ℤ pos n *ℤ k → f ≡ g
near f g n (pos zero) h i e = let o : f ≡ g + n * 0 = ap nat_abs e in omega arith
near f g n (pos (suc k)) h i e = let o : f ≡ g + n * suc k = ap nat_abs e in absurd (omega arith)
near f g n (negsuc k) h i e =
    let w : pos g ≡ pos f +ℤ pos (n * suc k) = sym (-ℤ-+ℤ_cancel (pos g) (pos (n * suc k))) ∙ ap (λ x. x +ℤ pos (n * suc k)) (sym e) in
    let o : g ≡ f + n * suc k = ap nat_abs w in absurd (omega arith)

between : (z f g n p q : ℤ) → z -ℤ f ≡ n *ℤ p → z -ℤ g ≡ n *ℤ q → f ≡ g +ℤ n *ℤ (q -ℤ p)
between z f g n p q d e =
    solve (z ∷ f ∷ g ∷ []) (var 1) (var 2 ⊕ ((var 0 ⊖ var 2) ⊖ (var 0 ⊖ var 1))) tt
    ∙ ap (λ x. g +ℤ (x -ℤ (z -ℤ f))) e
    ∙ ap (λ x. g +ℤ (n *ℤ q -ℤ x)) d
    ∙ solve (g ∷ n ∷ p ∷ q ∷ []) (var 0 ⊕ (var 1 ⊗ var 3 ⊖ var 1 ⊗ var 2)) (var 0 ⊕ var 1 ⊗ (var 3 ⊖ var 2)) tt

pub residue_unique : (z p q : ℤ) (f g n : ℕ) → f < n → g < n → z -ℤ pos f ≡ pos n *ℤ p → z -ℤ pos g ≡ pos n *ℤ q → f ≡ g
residue_unique z p q f g n h i d e = near f g n (q -ℤ p) h i (between z (pos f) (pos g) (pos n) p q d e)
