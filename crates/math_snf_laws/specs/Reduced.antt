-- What a pass does to the pivot's row and column: it leaves less than the pivot there, and a pass that updates nothing
-- leaves 0.
use Rattle.std.specs.Prelude.{ℕ, ◌<◌, ◌≤◌, ◌≡◌, refl, Bool, true, false, cond, T, eqb, leb, ℤ, pos, neg_ℤ, nat_abs, ◌-ℤ◌, ◌*ℤ◌}
use Rattle.std.proofs.Common.{sym, ap, ◌∙◌, subst, arith, le_trans, le_antisymm, le_of_eq, ne_eqb, eq-eqb, leb-true, leb-false}
use Rattle.std.proofs.Math.Nat.{zero-div}
use Rattle.std.proofs.Math.IntN.{pos-ne-negsuc}
use Rattle.std.specs.Int.Signed.{quot_z}
use Rattle.definitions.specs.Matrix.{Matrix, at}
use Rattle.definitions.specs.Snf.{State, Place, Pass, size_at, swapped, swap_rows, negate_column, moved, signed, clear_row, clear_column, cleared, pass}
use Rattle.math_matrix.specs.Bounds.{abs_neg}
use Rattle.math_snf_laws.specs.Steps.{In, i00, i01, i02, i11, i22, self, wide, in_le, Behind, b01, b02, b12, behind_in, behind_lt}
use Rattle.math_snf_laws.specs.Pivot.{Big, Chosen}
use Rattle.math_snf_laws.specs.Cases.{plain, signed_cases, row_cases, column_cases, row_quotient, column_quotient, row_cleared, column_cleared}
use Rattle.math_snf_laws.specs.Entries.{at_mat, swapped_in, swapped_self, swapped_same}
use Rattle.math_snf_laws.specs.Numbers.{big_none, quot_none, rest}

-- ---- the pivot in its place

pub record Ready (s n : ℕ) (d : Matrix) : Type 0 where
  pub corner : at d s s ≡ pos n
  pub above : 0 < n
  pub big : (i j : ℕ) → In s i → In s j → Big n (nat_abs (at d i j))

moved_at : {s i j : ℕ} (p : Place) (t : State) → In s p.0 → In s p.1 → In s i → In s j → at (moved s p t).d i j ≡ at t.d (swapped s p.0 i) (swapped s p.1 j)
unfolding moved
moved_at {s} {i} {j} p t a b x y =
    at_mat (λ i j. at (swap_rows s p.0 t.d) i (swapped s p.1 j)) (wide x) (wide y)
    ∙ at_mat (λ i j. at t.d (swapped s p.0 i) j) (wide x) (wide (swapped_in b y))

negate_at : {i j : ℕ} (s : ℕ) (d : Matrix) → In 0 i → In 0 j → at (negate_column s d) i j ≡ cond (eqb j s) (neg_ℤ (at d i j)) (at d i j)
negate_at s d x y = at_mat (λ i j. cond (eqb j s) (neg_ℤ (at d i j)) (at d i j)) x y

abs-cond : (b : Bool) (z : ℤ) → nat_abs (cond b (neg_ℤ z) z) ≡ nat_abs z
abs-cond true z = abs_neg z
abs-cond false z = refl

module _ (s : ℕ) (p : Place) (t : State) (c : Chosen s t.d p) where
  at_corner : at (moved s p t).d s s ≡ at t.d p.0 p.1
  at_corner =
      moved_at p t c.row c.column (self c.row) (self c.row)
      ∙ ap (λ (i : ℕ). at t.d i (swapped s p.1 s)) (swapped_self c.row)
      ∙ ap (λ (j : ℕ). at t.d p.0 j) (swapped_self c.column)

  moved_big : (i j : ℕ) → In s i → In s j → Big (size_at t.d p) (nat_abs (at (moved s p t).d i j))
  moved_big i j x y =
      subst (λ z. Big (size_at t.d p) (nat_abs z)) (sym (moved_at p t c.row c.column x y))
      (c.big (swapped s p.0 i) (swapped s p.1 j) (swapped_in c.row x) (swapped_in c.column y))

  pub ready : Ready s (size_at t.d p) (signed s (moved s p t)).state.d
  ready =
      signed_cases (λ q. Ready s (size_at t.d p) q.state.d) s (moved s p t)
      (λ n e. record { corner = e ∙ ap pos (sym (ap nat_abs e) ∙ ap nat_abs at_corner); above = c.above; big = moved_big })
      (λ n e.
      record {
        corner =
            negate_at s (moved s p t).d (wide (self c.row)) (wide (self c.row))
            ∙ ap (λ (b : Bool). cond b (neg_ℤ (at (moved s p t).d s s)) (at (moved s p t).d s s)) (eq-eqb s s refl)
            ∙ ap neg_ℤ e
            ∙ ap pos (sym (ap nat_abs e) ∙ ap nat_abs at_corner);
        above = c.above;
        big = λ i j x y.
            subst (λ (k : ℕ). Big (size_at t.d p) k)
            (sym (ap nat_abs (negate_at s (moved s p t).d (wide x) (wide y)) ∙ abs-cond (eqb j s) (at (moved s p t).d i j)))
            (moved_big i j x y);
      })

-- ---- a pass that updates nothing

never : {A : Type 0} → true ≡ false → A
never e = absurd (subst (λ (b : Bool). T b) e tt)

quiet_row : (s i : ℕ) (p : Pass) → (clear_row s i p).updated ≡ false → (nat_abs (row_quotient s i p) ≡ 0) × (clear_row s i p ≡ p)
quiet_row s i p = row_cases (λ q. q.updated ≡ false → (nat_abs (row_quotient s i p) ≡ 0) × (q ≡ p)) s i p (λ e h. (e, refl)) (λ h. never h)

quiet_column : (s i : ℕ) (p : Pass) → (clear_column s i p).updated ≡ false → (nat_abs (column_quotient s i p) ≡ 0) × (clear_column s i p ≡ p)
quiet_column s i p = column_cases (λ q. q.updated ≡ false → (nat_abs (column_quotient s i p) ≡ 0) × (q ≡ p)) s i p (λ e h. (e, refl)) (λ h. never h)

record Quiet (s : ℕ) (p q : Pass) : Type 0 where
  same : q ≡ p
  rows : (i : ℕ) → Behind s i → nat_abs (row_quotient s i p) ≡ 0
  columns : (i : ℕ) → Behind s i → nat_abs (column_quotient s i p) ≡ 0

two : (A : ℕ → Type 0) → A 1 → A 2 → (i : ℕ) → Behind 0 i → A i
two A x y i b01 = x
two A x y i b02 = y

only : (A : ℕ → Type 0) → A 2 → (i : ℕ) → Behind 1 i → A i
only A x i b12 = x

none : (A : ℕ → Type 0) → (i : ℕ) → Behind 2 i → A i
none A i b =
    let g = behind_lt b in
    let h = in_le (behind_in b) in
    absurd (omega arith)

quiet : {s : ℕ} → In s s → (p : Pass) → (cleared s p).updated ≡ false → Quiet s p (cleared s p)
unfolding cleared
quiet i00 p h =
    let p₁ = clear_row 0 1 p in
    let p₂ = clear_row 0 2 p₁ in
    let p₃ = clear_column 0 1 p₂ in
    let q₄ = quiet_column 0 2 p₃ h in
    let q₃ = quiet_column 0 1 p₂ (sym (ap (λ (x : Pass). x.updated) q₄.1) ∙ h) in
    let e₃ = q₄.1 ∙ q₃.1 in
    let q₂ = quiet_row 0 2 p₁ (sym (ap (λ (x : Pass). x.updated) e₃) ∙ h) in
    let e₂ = e₃ ∙ q₂.1 in
    let q₁ = quiet_row 0 1 p (sym (ap (λ (x : Pass). x.updated) e₂) ∙ h) in
    record {
      same = e₂ ∙ q₁.1;
      rows = two (λ i. nat_abs (row_quotient 0 i p) ≡ 0) q₁.0 (subst (λ x. nat_abs (row_quotient 0 2 x) ≡ 0) q₁.1 q₂.0);
      columns = two (λ i. nat_abs (column_quotient 0 i p) ≡ 0)
          (subst (λ x. nat_abs (column_quotient 0 1 x) ≡ 0) (q₂.1 ∙ q₁.1) q₃.0)
          (subst (λ x. nat_abs (column_quotient 0 2 x) ≡ 0) (q₃.1 ∙ q₂.1 ∙ q₁.1) q₄.0);
    }
quiet i11 p h =
    let q₂ = quiet_column 1 2 (clear_row 1 2 p) h in
    let q₁ = quiet_row 1 2 p (sym (ap (λ (x : Pass). x.updated) q₂.1) ∙ h) in
    record {
      same = q₂.1 ∙ q₁.1;
      rows = only (λ i. nat_abs (row_quotient 1 i p) ≡ 0) q₁.0;
      columns = only (λ i. nat_abs (column_quotient 1 i p) ≡ 0) (subst (λ x. nat_abs (column_quotient 1 2 x) ≡ 0) q₁.1 q₂.0);
    }
quiet i22 p h = record { same = refl; rows = none (λ i. nat_abs (row_quotient 2 i p) ≡ 0); columns = none (λ i. nat_abs (column_quotient 2 i p) ≡ 0) }

-- the pivot's row and column after such a pass, and the corner
pub record Cleared (s n : ℕ) (d : Matrix) : Type 0 where
  pub corner : at d s s ≡ pos n
  pub rows : (i : ℕ) → Behind s i → at d i s ≡ pos 0
  pub columns : (i : ℕ) → Behind s i → at d s i ≡ pos 0

module _ {s n : ℕ} (p : Pass) (k : Ready s n p.state.d) where
  left_none : {i j : ℕ} → In s i → In s j → nat_abs (quot_z (at p.state.d i j) (at p.state.d s s)) ≡ 0 → at p.state.d i j ≡ pos 0
  left_none {i} {j} x y e =
      big_none (at p.state.d i j) (k.big i j x y)
      (quot_none (at p.state.d i j) n k.above (ap (λ z. nat_abs (quot_z (at p.state.d i j) z)) (sym k.corner) ∙ e))

  pub cleared_quiet : In s s → (cleared s p).updated ≡ false → Cleared s n (cleared s p).state.d
  cleared_quiet a h =
      let q = quiet a p h in
      subst (λ (x : Pass). Cleared s n x.state.d) (sym q.same)
      (record {
        corner = k.corner;
        rows = λ i b. left_none (behind_in b) a (q.rows i b);
        columns = λ i b. left_none a (behind_in b) (q.columns i b);
      })

-- ---- any pass

record Less (s n : ℕ) (d : Matrix) : Type 0 where
  corner : at d s s ≡ pos n
  rows : (i : ℕ) → Behind s i → nat_abs (at d i s) < n
  columns : (i : ℕ) → Behind s i → nat_abs (at d s i) < n

module _ {s i : ℕ} (b : Behind s i) (p : Pass) where
  row_keeps : {x y : ℕ} → In 0 x → In 0 y → (x ≡ i → ⊥) → at (clear_row s i p).state.d x y ≡ at p.state.d x y
  row_keeps {x} {y} f g n =
      row_cases (λ q. at q.state.d x y ≡ at p.state.d x y) s i p (λ e. refl)
      (at_mat (λ u v. cond (eqb u i) (at p.state.d u v -ℤ row_quotient s i p *ℤ at p.state.d s v) (at p.state.d u v)) f g ∙ simp (ne_eqb x i n))

  column_keeps : {x y : ℕ} → In 0 x → In 0 y → (y ≡ i → ⊥) → at (clear_column s i p).state.d x y ≡ at p.state.d x y
  column_keeps {x} {y} f g n =
      column_cases (λ q. at q.state.d x y ≡ at p.state.d x y) s i p (λ e. refl)
      (at_mat (λ u v. cond (eqb v i) (at p.state.d u v -ℤ column_quotient s i p *ℤ at p.state.d u s) (at p.state.d u v)) f g ∙ simp (ne_eqb y i n))

  row_at : at (row_cleared s i p).state.d i s ≡ at p.state.d i s -ℤ row_quotient s i p *ℤ at p.state.d s s
  row_at =
      at_mat (λ u v. cond (eqb u i) (at p.state.d u v -ℤ row_quotient s i p *ℤ at p.state.d s v) (at p.state.d u v)) (wide (behind_in b)) (wide (self (behind_in b)))
      ∙ simp (eq-eqb i i refl)

  column_at : at (column_cleared s i p).state.d s i ≡ at p.state.d s i -ℤ column_quotient s i p *ℤ at p.state.d s s
  column_at =
      at_mat (λ u v. cond (eqb v i) (at p.state.d u v -ℤ column_quotient s i p *ℤ at p.state.d u s) (at p.state.d u v)) (wide (self (behind_in b))) (wide (behind_in b))
      ∙ simp (eq-eqb i i refl)

  module _ {n : ℕ} (h : 0 < n) (c : at p.state.d s s ≡ pos n) where
    rest_less : (z : ℤ) → nat_abs (z -ℤ quot_z z (at p.state.d s s) *ℤ at p.state.d s s) < n
    rest_less z = subst (λ w. nat_abs (z -ℤ quot_z z w *ℤ w) < n) (sym c) (rest z n h)

    none_less : (z : ℤ) → nat_abs (quot_z z (at p.state.d s s)) ≡ 0 → nat_abs z < n
    none_less z e = quot_none z n h (ap (λ w. nat_abs (quot_z z w)) (sym c) ∙ e)

    row_less : nat_abs (at (clear_row s i p).state.d i s) < n
    row_less =
        row_cases (λ q. nat_abs (at q.state.d i s) < n) s i p (none_less (at p.state.d i s))
        (subst (λ z. nat_abs z < n) (sym row_at) (rest_less (at p.state.d i s)))

    column_less : nat_abs (at (clear_column s i p).state.d s i) < n
    column_less =
        column_cases (λ q. nat_abs (at q.state.d s i) < n) s i p (none_less (at p.state.d s i))
        (subst (λ z. nat_abs z < n) (sym column_at) (rest_less (at p.state.d s i)))

  -- the bounds of other places go on
  row_on : {n x y : ℕ} → In 0 x → In 0 y → (x ≡ i → ⊥) → nat_abs (at p.state.d x y) < n → nat_abs (at (clear_row s i p).state.d x y) < n
  row_on {n} f g d h = subst (λ z. nat_abs z < n) (sym (row_keeps f g d)) h

  column_on : {n x y : ℕ} → In 0 x → In 0 y → (y ≡ i → ⊥) → nat_abs (at p.state.d x y) < n → nat_abs (at (clear_column s i p).state.d x y) < n
  column_on {n} f g d h = subst (λ z. nat_abs z < n) (sym (column_keeps f g d)) h

reduced : {s n : ℕ} → In s s → (p : Pass) → 0 < n → at p.state.d s s ≡ pos n → Less s n (cleared s p).state.d
unfolding cleared
reduced {n = n} i00 p h c =
    let p₁ = clear_row 0 1 p in
    let p₂ = clear_row 0 2 p₁ in
    let p₃ = clear_column 0 1 p₂ in
    let p₄ = clear_column 0 2 p₃ in
    let c₁ = row_keeps b01 p i00 i00 (λ e. omega arith) ∙ c in
    let c₂ = row_keeps b02 p₁ i00 i00 (λ e. omega arith) ∙ c₁ in
    let c₃ = column_keeps b01 p₂ i00 i00 (λ e. omega arith) ∙ c₂ in
    record {
      corner = column_keeps b02 p₃ i00 i00 (λ e. omega arith) ∙ c₃;
      rows = two (λ i. nat_abs (at p₄.state.d i 0) < n)
          (column_on b02 p₃ i01 i00 (λ e. omega arith)
          (column_on b01 p₂ i01 i00 (λ e. omega arith)
          (row_on b02 p₁ i01 i00 (λ e. omega arith)
          (row_less b01 p h c))))
          (column_on b02 p₃ i02 i00 (λ e. omega arith)
          (column_on b01 p₂ i02 i00 (λ e. omega arith)
          (row_less b02 p₁ h c₁)));
      columns = two (λ i. nat_abs (at p₄.state.d 0 i) < n) (column_on b02 p₃ i00 i01 (λ e. omega arith) (column_less b01 p₂ h c₂)) (column_less b02 p₃ h c₃);
    }
reduced {n = n} i11 p h c =
    let p₁ = clear_row 1 2 p in
    let p₂ = clear_column 1 2 p₁ in
    let c₁ = row_keeps b12 p i01 i01 (λ e. omega arith) ∙ c in
    record {
      corner = column_keeps b12 p₁ i01 i01 (λ e. omega arith) ∙ c₁;
      rows = only (λ i. nat_abs (at p₂.state.d i 1) < n) (column_on b12 p₁ i02 i01 (λ e. omega arith) (row_less b12 p h c));
      columns = only (λ i. nat_abs (at p₂.state.d 1 i) < n) (column_less b12 p₁ h c₁);
    }
reduced {n = n} i22 p h c =
    record { corner = c; rows = none (λ i. nat_abs (at p.state.d i 2) < n); columns = none (λ i. nat_abs (at p.state.d 2 i) < n) }

-- ---- a pass on a clear row and column

quotient_none : {a b : ℤ} {n : ℕ} → b ≡ pos n → a ≡ pos 0 → nat_abs (quot_z a b) ≡ 0
quotient_none {a} {b} {n} e f = ap (λ z. nat_abs (quot_z z b)) f ∙ ap (λ z. nat_abs (quot_z (pos 0) z)) e ∙ zero-div n

idle_row : (s i n : ℕ) (p : Pass) → at p.state.d s s ≡ pos n → at p.state.d i s ≡ pos 0 → clear_row s i p ≡ p
unfolding clear_row
idle_row s i n p c e = let z : nat_abs (row_quotient s i p) ≡ 0 = quotient_none c e in rw z refl

idle_column : (s i n : ℕ) (p : Pass) → at p.state.d s s ≡ pos n → at p.state.d s i ≡ pos 0 → clear_column s i p ≡ p
unfolding clear_column
idle_column s i n p c e = let z : nat_abs (column_quotient s i p) ≡ 0 = quotient_none c e in rw z refl

idle : {s n : ℕ} → In s s → (p : Pass) → Cleared s n p.state.d → cleared s p ≡ p
unfolding cleared
idle {n = n} i00 p k =
    ap (λ q. clear_column 0 2 (clear_column 0 1 (clear_row 0 2 q))) (idle_row 0 1 n p k.corner (k.rows 1 b01))
    ∙ ap (λ q. clear_column 0 2 (clear_column 0 1 q)) (idle_row 0 2 n p k.corner (k.rows 2 b02))
    ∙ ap (λ q. clear_column 0 2 q) (idle_column 0 1 n p k.corner (k.columns 1 b01))
    ∙ idle_column 0 2 n p k.corner (k.columns 2 b02)
idle {n = n} i11 p k = ap (λ q. clear_column 1 2 q) (idle_row 1 2 n p k.corner (k.rows 2 b12)) ∙ idle_column 1 2 n p k.corner (k.columns 2 b12)
idle i22 p k = refl

-- ---- a pass where the pivot stands in its corner and its row and column are clear updates nothing

module _ {s n : ℕ} (a : In s s) (u : State) (k : Cleared s n u.d) where
  same_at : {i j : ℕ} → In s i → In s j → at (moved s (s, s) u).d i j ≡ at u.d i j
  same_at {i} {j} x y =
      moved_at (s, s) u a a x y ∙ ap (λ (z : ℕ). at u.d z (swapped s s j)) (swapped_same x) ∙ ap (λ (z : ℕ). at u.d i z) (swapped_same y)

  not_turned : signed s (moved s (s, s) u) ≡ plain (moved s (s, s) u)
  not_turned =
      signed_cases (λ q. q ≡ plain (moved s (s, s) u)) s (moved s (s, s) u) (λ m e. refl)
      (λ m e. absurd (pos-ne-negsuc n m (sym (same_at a a ∙ k.corner) ∙ e)))

  rests : (pass s (s, s) u).updated ≡ false
  rests =
      ap (λ (q : Pass). (cleared s q).updated) not_turned
      ∙ ap (λ (q : Pass). q.updated)
      (idle a (plain (moved s (s, s) u))
      (record {
        corner = same_at a a ∙ k.corner;
        rows = λ i b. same_at (behind_in b) a ∙ k.rows i b;
        columns = λ i b. same_at a (behind_in b) ∙ k.columns i b;
      }))

-- ---- after a pass that updates, the next pivot is smaller or the next pass updates nothing

module _ (s : ℕ) (p : Place) (t : State) (c : Chosen s t.d p) where
  less : Less s (size_at t.d p) (pass s p t).state.d
  less = reduced (self c.row) (signed s (moved s p t)) c.above (ready s p t c).corner

  pub falls : (q : Place) → Chosen s (pass s p t).state.d q → (pass s q (pass s p t).state).updated ≡ true → size_at (pass s p t).state.d q < size_at t.d p
  falls q g h = go (leb n (size_at u q)) refl
    where
      n : ℕ
      n = size_at t.d p

      u : Matrix
      u = (pass s p t).state.d

      a : In s s
      a = self c.row

      corner : nat_abs (at u s s) ≡ n
      corner = ap nat_abs less.corner

      small : n ≤ size_at u q → {i j : ℕ} → In s i → In s j → nat_abs (at u i j) < n → at u i j ≡ pos 0
      small l {i} {j} x y m = big_none (at u i j) (g.big i j x y) (le_trans m l)

      go : (b : Bool) → leb n (size_at u q) ≡ b → size_at u q < n
      go true e =
          let l = leb-true n (size_at u q) e in
          let m = g.big s s a a (le_trans c.above (le_of_eq (sym corner))) in
          let f = g.first (le_antisymm (le_trans (le_of_eq corner) l) m) in
          let k = rests a (pass s p t).state (record { corner = less.corner; rows = λ i b. small l (behind_in b) a (less.rows i b); columns = λ i b. small l a (behind_in b) (less.columns i b) }) in
          never (sym h ∙ ap (λ (r : Place). (pass s r (pass s p t).state).updated) (sym f) ∙ k)
      go false e = leb-false n (size_at u q) e
