-- What the diagonalisation of C gives, and what follows for lattices: v - L⁻¹f is C times whole numbers just where Lv -
-- f is D times whole numbers.
use Rattle.std.specs.Prelude.{ℕ, ◌*◌, ◌<◌, ◌≡◌, cond, List, [], ◌∷◌, eqb, ℤ, pos, nat_abs, ◌*ℤ◌}
use Rattle.std.proofs.Common.{sym, ap, ◌∙◌, arith}
use Rattle.definitions.specs.Matrix.{Matrix, at, mat, item, three, identity, mul_m, apply, sub_v, det, inverse}
use Rattle.definitions.specs.Snf.{State}
use Rattle.definitions.specs.Limits.{copies}
use Rattle.math_matrix.specs.Solve.{Expr, var, con, ◌⊗◌, solve}
use Rattle.math_matrix.specs.Exprs.{solve_v, items_e, apply_e, det_e}
use Rattle.math_matrix.specs.Laws.{det-mul, mul-inverse, inverse-mul, apply-mul, apply-sub, apply-identity}
use Rattle.math_matrix.specs.Bounds.{abs-mul}

abbrev pub diagonal_of : (ℕ → ℤ) → Matrix
diagonal_of n = mat (λ i j. cond (eqb i j) (n i) (pos 0))

-- the size of the diagonal number i
abbrev pub factor : State → ℕ → ℕ
factor t i = nat_abs (at t.d i i)

-- LCR = D, with L and R of determinant 1 or -1, D diagonal with no negative number, and det C not 0
pub record Smith (c : Matrix) (t : State) : Type 0 where
  pub lcr : mul_m (mul_m t.l c) t.r ≡ t.d
  pub left : nat_abs (det t.l) ≡ 1
  pub right : nat_abs (det t.r) ≡ 1
  pub diagonal : mat (at t.d) ≡ diagonal_of (λ i. pos (factor t i))
  pub regular : 0 < copies c

-- ---- diagonal matrices

abbrev diagonal_e : ℕ → ℕ → Expr
diagonal_e i j = cond (eqb i j) (var i) (con (pos 0))

times_diagonal : (n : ℕ → ℤ) (v : List ℤ) → apply (diagonal_of n) v ≡ three (λ i. n i *ℤ item v i)
times_diagonal n v =
    solve_v (n 0 ∷ n 1 ∷ n 2 ∷ item v 0 ∷ item v 1 ∷ item v 2 ∷ []) (apply_e diagonal_e (items_e 3)) (λ i. var i ⊗ items_e 3 i) tt

det-diagonal : (n : ℕ → ℤ) → det (diagonal_of n) ≡ n 0 *ℤ n 1 *ℤ n 2
det-diagonal n = solve (n 0 ∷ n 1 ∷ n 2 ∷ []) (det_e diagonal_e) (var 0 ⊗ var 1 ⊗ var 2) tt

-- a matrix undoes its inverse
undo : (m n : Matrix) (v : List ℤ) → mul_m m n ≡ identity → apply m (apply n v) ≡ three (item v)
undo m n v e = sym (apply-mul m n v) ∙ ap (λ x. apply x v) e ∙ apply-identity v

module _ {c : Matrix} {t : State} (s : Smith c t) where
  pub volume : factor t 0 * factor t 1 * factor t 2 ≡ copies c
  volume =
      let d : det (mul_m (mul_m t.l c) t.r) ≡ det t.l *ℤ det c *ℤ det t.r =
      det-mul (mul_m t.l c) t.r ∙ ap (λ x. x *ℤ det t.r) (det-mul t.l c) in
      let e : pos (factor t 0 * factor t 1 * factor t 2) ≡ det t.l *ℤ det c *ℤ det t.r =
      sym (ap det s.diagonal ∙ det-diagonal (λ i. pos (factor t i))) ∙ ap det (sym s.lcr) ∙ d in
      let f : nat_abs (det t.l *ℤ det c *ℤ det t.r) ≡ nat_abs (det t.l) * nat_abs (det c) * nat_abs (det t.r) =
      abs-mul (det t.l *ℤ det c) (det t.r) ∙ ap (λ n. n * nat_abs (det t.r)) (abs-mul (det t.l) (det c)) in
      let g : nat_abs (det t.l) * nat_abs (det c) * nat_abs (det t.r) ≡ 1 * copies c * 1 =
      λ i. s.left i * copies c * s.right i in
      let o : 1 * copies c * 1 ≡ copies c = omega arith in
      ap nat_abs e ∙ f ∙ g ∙ o

  pub d_times : (q : List ℤ) → apply t.d q ≡ three (λ i. pos (factor t i) *ℤ item q i)
  d_times q = ap (λ m. apply m q) s.diagonal ∙ times_diagonal (λ i. pos (factor t i)) q

  lcr_times : (q : List ℤ) → apply t.l (apply c (apply t.r q)) ≡ apply t.d q
  lcr_times q =
      sym (apply-mul t.l c (apply t.r q)) ∙ sym (apply-mul (mul_m t.l c) t.r q) ∙ ap (λ m. apply m q) s.lcr

  -- L (v - L⁻¹f) = Lv - f
  moved : (v f : List ℤ) → apply t.l (sub_v v (apply (inverse t.l) f)) ≡ sub_v (apply t.l v) f
  moved v f =
      apply-sub t.l v (apply (inverse t.l) f)
      ∙ ap (sub_v (apply t.l v)) (undo t.l (inverse t.l) f (mul-inverse t.l s.left))

  pub to_diagonal : (v f w : List ℤ) → sub_v v (apply (inverse t.l) f) ≡ apply c w → sub_v (apply t.l v) f ≡ apply t.d (apply (inverse t.r) w)
  to_diagonal v f w e =
      sym (moved v f)
      ∙ ap (apply t.l) e
      ∙ ap (λ x. apply t.l (apply c x)) (sym (undo t.r (inverse t.r) w (mul-inverse t.r s.right)))
      ∙ lcr_times (apply (inverse t.r) w)

  pub from_diagonal : (v f q : List ℤ) → sub_v (apply t.l v) f ≡ apply t.d q → sub_v v (apply (inverse t.l) f) ≡ apply c (apply t.r q)
  from_diagonal v f q e =
      let back : (x : List ℤ) → apply (inverse t.l) (apply t.l x) ≡ three (item x) =
      λ x. undo (inverse t.l) t.l x (inverse-mul t.l s.left) in
      sym (back (sub_v v (apply (inverse t.l) f)))
      ∙ ap (apply (inverse t.l)) (moved v f ∙ e ∙ sym (lcr_times q))
      ∙ back (apply c (apply t.r q))
