-- Every run of the diagonalisation: L M R = D with L and R of determinant 1 or -1, D diagonal and not below 0; there is
-- one run and no other, and its stages are short.
use Rattle.std.specs.Prelude.{ℕ, zero, suc, ◌*◌, ◌<◌, ◌≡◌, refl, cond, List, [], ◌∷◌, T, eqb, ℤ, pos, nat_abs, ◌*ℤ◌}
use Rattle.std.proofs.Common.{sym, ap, ◌∙◌, arith}
use Rattle.std.specs.Int.Signed.{non_neg, pos-nat_abs}
use Rattle.definitions.specs.Matrix.{Matrix, at, mul_m, det}
use Rattle.definitions.specs.Snf.{State, start, Run}
use Rattle.math_matrix.specs.Solve.{Expr, var, con, ◌⊗◌, eval, solve}
use Rattle.math_matrix.specs.Exprs.{entries_e, det_e}
use Rattle.math_matrix.specs.Laws.{Three, det-mul}
use Rattle.math_matrix.specs.Bounds.{abs-mul}
use Rattle.math_snf_laws.specs.Steps.{In, i00, i01, i02, i11, i22, in_le}
use Rattle.math_snf_laws.specs.Stable.{Stable, stable_stage}
use Rattle.math_snf_laws.specs.Kept.{Kept, kept, kept_start}
use Rattle.math_snf_laws.specs.Done.{Done, done_none}
use Rattle.math_snf_laws.specs.Stages.{done-stage, stage_found}

-- what the steps of every stage keep, a run keeps
pub stable_run : (Q : State → Type 0) {m : Matrix} → ((s : ℕ) → Stable s Q) → (r : Run m) → Q (start m) → Q r.third
stable_run Q k r h = stable_stage {Q = Q} (k 2) i22 r.stage₂ (stable_stage {Q = Q} (k 1) i11 r.stage₁ (stable_stage {Q = Q} (k 0) i00 r.stage₀ h))

abbrev Shaped : State → Type 0
Shaped t = Three t.d × Three t.l × Three t.r

shaped : (s : ℕ) → Stable s Shaped
shaped s =
    record {
      swap-rows = λ a t h. (refl, refl, h.2);
      swap_columns_lem = λ a t h. (refl, h.1, refl);
      negate = λ a t h. (refl, h.1, refl);
      less_row_lem = λ b k t h. (refl, refl, h.2);
      less_column_lem = λ b k t h. (refl, h.1, refl);
    }

index : (i : ℕ) → i < 3 → In 0 i
index zero h = i00
index (suc zero) h = i01
index (suc (suc zero)) h = i02
index (suc (suc (suc i))) h = absurd (omega arith)

diagonal_e : ℕ → ℕ → Expr
diagonal_e i j = cond (eqb i j) (var i) (con (pos 0))

det-diagonal : (d : Matrix) → Done 3 d → det d ≡ at d 0 0 *ℤ at d 1 1 *ℤ at d 2 2
unfolding diagonal_e
det-diagonal d h =
    ap (λ (ρ : List ℤ). eval ρ (det_e (entries_e 0)))
    (λ i.
    at d 0 0 ∷ off i00 i01 (λ e. omega arith) i ∷ off i00 i02 (λ e. omega arith) i
    ∷ off i01 i00 (λ e. omega arith) i ∷ at d 1 1 ∷ off i01 i02 (λ e. omega arith) i
    ∷ off i02 i00 (λ e. omega arith) i ∷ off i02 i01 (λ e. omega arith) i ∷ at d 2 2 ∷ [])
    ∙ solve (at d 0 0 ∷ at d 1 1 ∷ at d 2 2 ∷ []) (det_e diagonal_e) (var 0 ⊗ var 1 ⊗ var 2) tt
  where
    off : {i j : ℕ} → In 0 i → In 0 j → (i ≡ j → ⊥) → at d i j ≡ pos 0
    off {i} {j} x y n = h.off i j x y (in_le x).1 (in_le y).1 n

module _ {m : Matrix} (r : Run m) where
  held : Three m → Kept m r.third
  held h = stable_run (Kept m) (kept m) r (kept_start m h)

  pub lmr : Three m → mul_m (mul_m r.third.l m) r.third.r ≡ r.third.d
  lmr h = (held h).lmr

  pub left_unit : Three m → nat_abs (det r.third.l) ≡ 1
  left_unit h = (held h).left

  pub right_unit : Three m → nat_abs (det r.third.r) ≡ 1
  right_unit h = (held h).right

  -- D, L and R have three rows of three
  pub three_by_three : Three m → Three r.third.d × Three r.third.l × Three r.third.r
  three_by_three h = stable_run Shaped shaped r (h, refl, refl)

  ended : Done 3 r.third.d
  ended = done-stage i22 r.stage₂ (done-stage i11 r.stage₁ (done-stage i00 r.stage₀ (done_none m)))

  pub diagonal : (i j : ℕ) → i < 3 → j < 3 → (i ≡ j → ⊥) → at r.third.d i j ≡ pos 0
  diagonal i j x y n = ended.off i j (index i x) (index j y) x y n

  pub not_negative : (i : ℕ) → i < 3 → T (non_neg (at r.third.d i i))
  not_negative i x = ended.diagonal i (index i x) x

  pub factor : (i : ℕ) → i < 3 → at r.third.d i i ≡ pos (nat_abs (at r.third.d i i))
  factor i x = sym (pos-nat_abs (at r.third.d i i) (not_negative i x))

  pub product : Three m → nat_abs (at r.third.d 0 0) * nat_abs (at r.third.d 1 1) * nat_abs (at r.third.d 2 2) ≡ nat_abs (det m)
  product h =
      sym (ap nat_abs (det-diagonal r.third.d ended) ∙ abs-mul (at r.third.d 0 0 *ℤ at r.third.d 1 1) (at r.third.d 2 2) ∙ ap (λ (k : ℕ). k * nat_abs (at r.third.d 2 2)) (abs-mul (at r.third.d 0 0) (at r.third.d 1 1)))
      ∙ ap (λ (x : Matrix). nat_abs (det x)) (sym (held h).lmr)
      ∙ ap nat_abs (det-mul (mul_m r.third.l m) r.third.r)
      ∙ abs-mul (det (mul_m r.third.l m)) (det r.third.r)
      ∙ ap (λ (k : ℕ). k * nat_abs (det r.third.r)) (ap nat_abs (det-mul r.third.l m) ∙ abs-mul (det r.third.l) (det m))
      ∙ ones (left_unit h) (right_unit h)
    where
      ones : {a b c : ℕ} → a ≡ 1 → c ≡ 1 → a * b * c ≡ b
      ones {a} {b} {c} e f = ap (λ (k : ℕ). k * b * c) e ∙ ap (λ (k : ℕ). 1 * b * k) f ∙ omega arith

pub every : (m : Matrix) → Run m
every m =
    let a = stage_found i00 (start m) in
    let b = stage_found i11 a.1 in
    let c = stage_found i22 b.1 in
    record { first = a.1; second = b.1; third = c.1; assigned₀ = a.0; assigned₁ = b.0; assigned₂ = c.0; stage₀ = a.2; stage₁ = b.2; stage₂ = c.2 }
