-- What the diagonalisation says of its matrix, and what is known once the points are not refused.
use Rattle.std.proofs.Common.{◌≡◌, ℕ, ◌<◌, ◌≤◌, Bool, true, false, not, T, eqb, ltb, ◌⊎◌, List, ℤ, Result, Ok, Err}
use Rattle.std.proofs.Common.{sym, refl, ap, ◌∙◌, subst, inr, ⊎_elim, arith}
use Rattle.definitions.specs.declared.Refusal.{Refusal}
use Rattle.definitions.specs.declared.Refusal.TheVariants.{Diagonalisation}
use Rattle.definitions.specs.Lists.{any}
use Rattle.definitions.specs.Matrix.{Matrix}
use Rattle.definitions.specs.Refusal.{Verdict, number, accepted, refused, outcome, ◌when◌, buffer, upto, precedence}
use Rattle.definitions.specs.Refusal.{Applies, Returns, Checked}
use Rattle.definitions.specs.Snf.{State, Run, Leaves, diagonal}
use Rattle.definitions.specs.Calls.{snf_conditions, IsSnf, SnfPromise, points_conditions, centring_conditions}
use Rattle.definitions.specs.Calls.{FactorsPromise}
use Rattle.definitions.specs.Limits.{in_range, bad_copies, copies, most_copies, shorter_than}
use Rattle.math_matrix.specs.Laws.{Three}
use Rattle.math_snf.specs.declared.SmithForm.{SmithForm}
use Rattle.math_snf.specs.Step.{state_of}
use Rattle.math_snf_laws.specs.Runs.{product}
use Rattle.base_transformation.specs.Answers.{Diagonalised, Ready}
use Rattle.base_transformation.specs.Lent.{points_facts}
use Rattle.laws.specs.Order.{numbered, FailAll, past, FailBefore, past_before, checked_without}
use Rattle.laws.specs.Tests.{so, true_of, or_right}
use Rattle.laws.specs.Verdicts.{number_one, accepted_with, refused_with_lem, checked_in}
use borrow.Author.Tests.{eqb-true}

-- ---- the verdict of `snf`

pub snf_accepts : (c : Matrix) → Checked (snf_conditions c) (Ok tt) → Leaves c → ⊥
unfolding numbered FailAll
snf_accepts c e = (past (snf_conditions c) tt e).1.0

module _ (r : Refusal) where
  diagonalisation : eqb 8 (number r) ≡ true → r ≡ Diagonalisation
  diagonalisation e = number_one r Diagonalisation (sym (eqb-true 8 (number r) e))

  -- the entries are in range, so that 3 does not apply
  pub snf_refuses : (c : Matrix) → in_range c ≡ true → Checked (snf_conditions c) (Err r) → (r ≡ Diagonalisation) × Leaves c
  unfolding Checked Returns Applies
  snf_refuses c e h = by (eqb 3 (number r)) (eqb 8 (number r)) refl (subst (λ (b : Bool). T (not b)) e) h.0
    where
      by : (a b : Bool) → eqb 8 (number r) ≡ b → {P Q : Type 0} → (P → ⊥) → elim a as (λ (x : Bool). Type 0) [ true ↦ P ⊎ elim b as (λ (x : Bool). Type 0) [ true ↦ Q ⊎ ⊥ | false ↦ ⊥ ] | false ↦ elim b as (λ (x : Bool). Type 0) [ true ↦ Q ⊎ ⊥ | false ↦ ⊥ ] ] → (r ≡ Diagonalisation) × Q
      by true true f n x = ⊎_elim (λ p. absurd (n p)) (⊎_elim (λ q. (diagonalisation f, q)) (λ z. absurd z)) x
      by true false f n x = ⊎_elim (λ p. absurd (n p)) (λ z. absurd z) x
      by false true f n x = ⊎_elim (λ q. (diagonalisation f, q)) (λ z. absurd z) x
      by false false f n x = absurd x

-- past the number of copies, what `snf` returns
pub diagonalised :
    (c : Matrix) (r : Result SmithForm Refusal) → in_range c ≡ true → bad_copies c ≡ false → SnfPromise c (outcome state_of r) →
    Diagonalised c r
unfolding Returns
diagonalised c (Ok s) e b h = (b, snf_accepts c (checked_in (snf_conditions c) (IsSnf c) state_of (Ok s) h), h.1)
diagonalised c (Err k) e b h =
    let x = snf_refuses k c e (checked_in (snf_conditions c) (IsSnf c) state_of (Err k) h) in inr (x.0, b, x.1)

-- ---- the verdict on the points

-- from 1 to 64 copies, for which there is room: so many points
pub ready_of :
    (c : Matrix) (room : ℕ) → (0 < copies c) × (copies c ≤ 64) × (copies c ≤ room) → Three c →
    (s : State) → IsSnf c s → Ready s.d room
ready_of c room f h s e = subst (λ (t : State). Ready t.d room) e.1 run
  where
    run : Ready e.0.third.d room
    run =
        let (x, y, z) = f in
        let n = product e.0 h in
        record { few = omega arith; fits = omega arith }

pub ready :
    (c : Matrix) (room : ℕ) → Checked (points_conditions c room) (Ok tt) → Three c → (s : State) → IsSnf c s → Ready s.d room
ready c room e = ready_of c room (points_facts c room e)

-- ---- the invariant factors

-- past 7 there are not more copies than the most, so that 10 does not apply
pub centring_checked : (c : Matrix) (v : Verdict) → Checked (points_conditions c most_copies) v → Checked (centring_conditions c) v
unfolding FailBefore any upto precedence
centring_checked c v =
    checked_without (centring_conditions c) (buffer when T (shorter_than (copies c) most_copies)) v
    (λ past h. (past_before buffer (points_conditions c most_copies) past).1.0 tt (so (or_right (eqb (copies c) 0) (true_of (ltb most_copies (copies c)) h))))

module _ (c : Matrix) where
  pub factors_accepted :
      (t : State) (out : List ℤ) → Returns (points_conditions c most_copies) (IsSnf c) (accepted t) → out ≡ diagonal t.d →
      FactorsPromise c (Ok out)
  unfolding Returns Checked
  factors_accepted t out (e, ended) f =
      accepted_with (centring_conditions c) (λ fs. (r : Run c) × (fs ≡ diagonal r.third.d)) out
      (centring_checked c (Ok tt) (e, tt))
      (ended.0, f ∙ ap (λ (s : State). diagonal s.d) (sym ended.1))

  pub factors_refused :
      (r : Refusal) → Returns (points_conditions c most_copies) (IsSnf c) (refused (number r)) → FactorsPromise c (Err r)
  unfolding Returns Checked
  factors_refused r e =
      refused_with_lem (centring_conditions c) (λ fs. (s : Run c) × (fs ≡ diagonal s.third.d)) r
      (centring_checked c (Err r) e)
