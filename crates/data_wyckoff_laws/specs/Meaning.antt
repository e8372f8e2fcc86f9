-- What the rows of a triplet add up to, for proofs/Meaning.antt: they mean what the triplet says.
use Rattle.std.specs.Prelude.{ℕ, ◌*◌, ◌/◌, ◌≡◌, ℤ, pos, neg_ℤ, ◌+ℤ◌, ◌*ℤ◌}
use Rattle.std.proofs.Math.IntN.{zero-*ℤ, *ℤ-zero, +ℤ_idl, +ℤ_idr}
use Rattle.definitions.specs.Matrix.{dot}
use Rattle.definitions.specs.Coordinates.{Item, numerator, denominator}
use Rattle.math_matrix.specs.Ring.{ring, *ℤ-assoc}

abbrev pub exact_in : Item → ℕ
exact_in i = 2520 / denominator i * numerator i

-- ---- sums of m (p a + q b + r c) + n e

pub add_values : (a b c m n p q r e p' q' r' e' : ℤ) →
    m *ℤ dot p q r a b c +ℤ n *ℤ e +ℤ (m *ℤ dot p' q' r' a b c +ℤ n *ℤ e') ≡ m *ℤ dot (p +ℤ p') (q +ℤ q') (r +ℤ r') a b c +ℤ n *ℤ (e +ℤ e')
add_values a b c m n p q r e p' q' r' e' = simp ring

pub neg_values : (a b c m n p q r e : ℤ) →
    neg_ℤ (m *ℤ dot p q r a b c +ℤ n *ℤ e) ≡ m *ℤ dot (neg_ℤ p) (neg_ℤ q) (neg_ℤ r) a b c +ℤ n *ℤ neg_ℤ e
neg_values a b c m n p q r e = simp ring

pub only_x : (m k a b c n : ℤ) → (m *ℤ k) *ℤ a ≡ m *ℤ dot k (pos 0) (pos 0) a b c +ℤ n *ℤ pos 0
only_x m k a b c n = simp (zero-*ℤ, *ℤ-zero, +ℤ_idr, *ℤ-assoc)

pub only_y : (m k a b c n : ℤ) → (m *ℤ k) *ℤ b ≡ m *ℤ dot (pos 0) k (pos 0) a b c +ℤ n *ℤ pos 0
only_y m k a b c n = simp (zero-*ℤ, *ℤ-zero, +ℤ_idr, +ℤ_idl, *ℤ-assoc)

pub only_z : (m k a b c n : ℤ) → (m *ℤ k) *ℤ c ≡ m *ℤ dot (pos 0) (pos 0) k a b c +ℤ n *ℤ pos 0
only_z m k a b c n = simp (zero-*ℤ, *ℤ-zero, +ℤ_idr, +ℤ_idl, *ℤ-assoc)

pub no_axis : (m e a b c : ℤ) → e ≡ m *ℤ dot (pos 0) (pos 0) (pos 0) a b c +ℤ e
no_axis m e a b c = simp (zero-*ℤ, *ℤ-zero, +ℤ_idl)
