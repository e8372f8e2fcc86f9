-- The ring laws of ℤ that lib.IntN lacks.
use Rattle.std.specs.Prelude.{suc, zero, ◌≡◌, ℤ, pos, negsuc, neg_ℤ, ◌+ℤ◌, ◌-ℤ◌, ◌*ℤ◌}
use Rattle.std.proofs.Common.{sym, ap, ◌∙◌}
use Rattle.std.proofs.Math.IntN.{suc_ℤ, pred_ℤ, +ℤ_assoc, +ℤ_comm, *ℤ_comm, +ℤ_idl, zero-*ℤ, suc_ℤ-+ℤ, pred_ℤ-+ℤ, suc_ℤ-*ℤ, pred_ℤ-*ℤ, neg_ℤ-neg_ℤ, neg_ℤ-+ℤ, +ℤ_invr, +ℤ_invl, +ℤ_idr}

ind : (P : ℤ → Type 0) → P (pos 0) → ((m : ℤ) → P m → P (suc_ℤ m)) → ((m : ℤ) → P m → P (pred_ℤ m)) → (k : ℤ) → P k
ind P z s p (pos zero) = z
ind P z s p (pos (suc n)) = s (pos n) (ind P z s p (pos n))
ind P z s p (negsuc zero) = p (pos 0) z
ind P z s p (negsuc (suc n)) = p (negsuc n) (ind P z s p (negsuc n))

-- for `simp`: with it sums are sorted alike
pub +ℤ-left : (a b c : ℤ) → a +ℤ (b +ℤ c) ≡ b +ℤ (a +ℤ c)
+ℤ-left a b c = sym (+ℤ_assoc a b c) ∙ ap (λ t. t +ℤ c) (+ℤ_comm a b) ∙ +ℤ_assoc b a c

turn : (x k y : ℤ) → x +ℤ y +ℤ k ≡ x +ℤ k +ℤ y
turn x k y = +ℤ_assoc x y k ∙ ap (λ t. x +ℤ t) (+ℤ_comm y k) ∙ sym (+ℤ_assoc x k y)

-- (m + b) k = m k + b k
pub +*ℤ : (m b k : ℤ) → (m +ℤ b) *ℤ k ≡ m *ℤ k +ℤ b *ℤ k
+*ℤ m b k = ind (λ m. (m +ℤ b) *ℤ k ≡ m *ℤ k +ℤ b *ℤ k)
    (ap (λ t. t *ℤ k) (+ℤ_idl b) ∙ sym (+ℤ_idl (b *ℤ k)) ∙ ap (λ t. t +ℤ b *ℤ k) (sym (zero-*ℤ k)))
    (λ m ih. ap (λ t. t *ℤ k) (suc_ℤ-+ℤ m b) ∙ suc_ℤ-*ℤ (m +ℤ b) k ∙ ap (λ t. t +ℤ k) ih ∙ turn (m *ℤ k) k (b *ℤ k) ∙ ap (λ t. t +ℤ b *ℤ k) (sym (suc_ℤ-*ℤ m k)))
    (λ m ih. ap (λ t. t *ℤ k) (pred_ℤ-+ℤ m b) ∙ pred_ℤ-*ℤ (m +ℤ b) k ∙ ap (λ t. t -ℤ k) ih ∙ turn (m *ℤ k) (neg_ℤ k) (b *ℤ k) ∙ ap (λ t. t +ℤ b *ℤ k) (sym (pred_ℤ-*ℤ m k)))
    m

pub *+ℤ : (k m b : ℤ) → k *ℤ (m +ℤ b) ≡ k *ℤ m +ℤ k *ℤ b
*+ℤ k m b = *ℤ_comm k (m +ℤ b) ∙ +*ℤ m b k ∙ ap (λ t. t +ℤ b *ℤ k) (*ℤ_comm m k) ∙ ap (λ t. k *ℤ m +ℤ t) (*ℤ_comm b k)

pub neg_*ℤ : (m k : ℤ) → neg_ℤ m *ℤ k ≡ neg_ℤ (m *ℤ k)
neg_*ℤ m k = unique (m *ℤ k) (neg_ℤ m *ℤ k) (sym (+*ℤ (neg_ℤ m) m k) ∙ ap (λ t. t *ℤ k) (+ℤ_invl m) ∙ zero-*ℤ k)
  where
    unique : (x y : ℤ) → y +ℤ x ≡ pos 0 → y ≡ neg_ℤ x
    unique x y e = sym (+ℤ_idr y) ∙ ap (λ t. y +ℤ t) (sym (+ℤ_invr x)) ∙ sym (+ℤ_assoc y x (neg_ℤ x)) ∙ ap (λ t. t +ℤ neg_ℤ x) e ∙ +ℤ_idl (neg_ℤ x)

pub *ℤ-assoc : (m b k : ℤ) → (m *ℤ b) *ℤ k ≡ m *ℤ (b *ℤ k)
*ℤ-assoc m b k = ind (λ m. (m *ℤ b) *ℤ k ≡ m *ℤ (b *ℤ k))
    (ap (λ t. t *ℤ k) (zero-*ℤ b) ∙ zero-*ℤ k ∙ sym (zero-*ℤ (b *ℤ k)))
    (λ m ih. ap (λ t. t *ℤ k) (suc_ℤ-*ℤ m b) ∙ +*ℤ (m *ℤ b) b k ∙ ap (λ t. t +ℤ b *ℤ k) ih ∙ sym (suc_ℤ-*ℤ m (b *ℤ k)))
    (λ m ih. ap (λ t. t *ℤ k) (pred_ℤ-*ℤ m b) ∙ +*ℤ (m *ℤ b) (neg_ℤ b) k ∙ ap (λ t. t +ℤ neg_ℤ b *ℤ k) ih ∙ ap (λ t. m *ℤ (b *ℤ k) +ℤ t) (neg_*ℤ b k) ∙ sym (pred_ℤ-*ℤ m (b *ℤ k)))
    m

pub *ℤ-left : (a b c : ℤ) → a *ℤ (b *ℤ c) ≡ b *ℤ (a *ℤ c)
*ℤ-left a b c = sym (*ℤ-assoc a b c) ∙ ap (λ t. t *ℤ c) (*ℤ_comm a b) ∙ *ℤ-assoc b a c

pub *-neg : (m k : ℤ) → m *ℤ neg_ℤ k ≡ neg_ℤ (m *ℤ k)
*-neg m k = *ℤ_comm m (neg_ℤ k) ∙ neg_*ℤ k m ∙ ap neg_ℤ (*ℤ_comm k m)

-- sorts sums of products; it does not cancel
pub ruleset ring = (+*ℤ, *+ℤ, *ℤ-assoc, *ℤ_comm, *ℤ-left, +ℤ_assoc, +ℤ_comm, +ℤ-left, neg_*ℤ, *-neg, neg_ℤ-+ℤ, neg_ℤ-neg_ℤ)
