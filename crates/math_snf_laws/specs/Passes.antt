-- Request M-113 of document 02, of the call `passes` by its promise: which number, with which passes, and their bound.
use Rattle.std.specs.Prelude.{ℕ, ◌≡◌, Bool, true, false, cond, ◌↔◌}
use Rattle.std.proofs.Math.Path.{refl}
use Rattle.std.proofs.Common.{sym, ap, ◌∙◌, arith}
use Rattle.std.proofs.Math.Bool.{not}
use Rattle.std.proofs.Math.Option.{none, some, some-injective}
use Rattle.definitions.specs.Refusal.{Verdict}
use Rattle.std.specs.Prelude.{Result, Err, Ok}
use Rattle.definitions.specs.declared.Refusal.{Refusal}
use Rattle.definitions.specs.declared.Refusal.TheVariants.{MatrixEntry, Diagonalisation}
use Rattle.definitions.specs.declared.Passes.{Passes}
use Rattle.definitions.specs.declared.Passes.TheVariants.{Counted, Left, Outside}
use Rattle.definitions.specs.Lists.{all}
use Rattle.definitions.specs.Limits.{small, in_range}
use Rattle.definitions.specs.Refusal.{Checked, outcome}
use Rattle.definitions.specs.Matrix.{Matrix}
use Rattle.definitions.specs.Snf.{State, Run, all_assigned, Leaves, begun_of, passes_of}
use Rattle.definitions.specs.Calls.{snf_conditions, IsSnf, SnfPromise, passes_told, PassesPromise}
use Rattle.laws.specs.Order.{numbered}
use Rattle.laws.proofs.Order.{checked_unique}
use Rattle.laws.specs.Verdicts.{holds, fails, untested, is_true, is_false, verdict_of, checked}
use Rattle.laws.specs.Verdicts.{number, same_number, verdict_in, checked_in}
use Rattle.math_snf_laws.specs.Unique.{same-run, stays}
use Rattle.math_snf_laws.specs.Runs.{every}

-- ---- the verdict on a matrix, by its run

pub outside_refused : (m : Matrix) → in_range m ≡ false → Checked (snf_conditions m) (Err MatrixEntry)
unfolding verdict_of
outside_refused m e = checked (snf_conditions m) (is_true (ap not e), (untested, tt)) (Err MatrixEntry) refl

module _ {m : Matrix} (r : Run m) (e : in_range m ≡ true) where
  pub leaving_refused : all small (all_assigned r) ≡ false → Checked (snf_conditions m) (Err Diagonalisation)
  unfolding verdict_of
  leaving_refused f = checked (snf_conditions m) (is_false (ap not e), (holds (r, rw f tt), tt)) (Err Diagonalisation) refl

  pub staying_accepted : all small (all_assigned r) ≡ true → Checked (snf_conditions m) (Ok tt)
  unfolding verdict_of
  staying_accepted f =
      checked (snf_conditions m) (is_false (ap not e), (fails (stays r (rw f tt)), tt)) (Ok tt) refl

-- ---- the one answer

-- what a run of m says
abbrev pub judged : {m : Matrix} → Run m → Passes
judged {m} r =
    cond (in_range m) (cond (all small (all_assigned r)) (Counted (passes_of r)) (Left (begun_of r))) Outside

pub judged_right : {m : Matrix} (r : Run m) → PassesPromise m (judged r)
judged_right {m} r = by (in_range m) refl (all small (all_assigned r)) refl
  where
    by :
        (a : Bool) → in_range m ≡ a → (b : Bool) → all small (all_assigned r) ≡ b →
        PassesPromise m (cond a (cond b (Counted (passes_of r)) (Left (begun_of r))) Outside)
    by false e b f = (outside_refused m e, refl)
    by true e false f = (leaving_refused r e f, (r, refl))
    by true e true f = (staying_accepted r e f, (r, refl))

-- two runs have the same passes
same-passes : {m : Matrix} (r r' : Run m) → (passes_of r ≡ passes_of r') × (begun_of r ≡ begun_of r')
same-passes r r' = let s = same-run r r' in rw (s.first.0, s.second.0, s.third.0) (refl, refl)

module _ {m : Matrix} (r : Run m) where
  told_accepted : (p : Passes) → PassesPromise m p → (passes_told p).0 ≡ (Ok tt) → p ≡ Counted (passes_of r)
  told_accepted (Counted s) h e =
      ap Counted (some-injective s (passes_of h.1.0) h.1.1 ∙ (same-passes h.1.0 r).0)
  told_accepted (Left s) h e = absurd (omega (arith, same_number refl e))
  told_accepted Outside h e = absurd (omega (arith, same_number refl e))

  told_8 : (p : Passes) → PassesPromise m p → (passes_told p).0 ≡ Err Diagonalisation → p ≡ Left (begun_of r)
  told_8 (Counted s) h e = absurd (omega (arith, same_number refl e))
  told_8 (Left s) h e =
      ap Left (some-injective s (begun_of h.1.0) h.1.1 ∙ (same-passes h.1.0 r).1)
  told_8 Outside h e = absurd (omega (arith, same_number refl e))

  told_3 : (p : Passes) → (passes_told p).0 ≡ Err MatrixEntry → p ≡ Outside
  told_3 (Counted s) e = absurd (omega (arith, same_number refl e))
  told_3 (Left s) e = absurd (omega (arith, same_number refl e))
  told_3 Outside e = refl

  -- the promise allows this answer, and no other
  pub is_judged : (p : Passes) → PassesPromise m p → p ≡ judged r
  unfolding numbered
  is_judged p h = by (in_range m) refl (all small (all_assigned r)) refl
    where
      is : (v : Verdict) → Checked (snf_conditions m) v → (passes_told p).0 ≡ v
      is v d = checked_unique (snf_conditions m) tt (passes_told p).0 v h.0 d

      by :
          (a : Bool) → in_range m ≡ a → (b : Bool) → all small (all_assigned r) ≡ b →
          p ≡ cond a (cond b (Counted (passes_of r)) (Left (begun_of r))) Outside
      by false e b f = told_3 p (is (Err MatrixEntry) (outside_refused m e))
      by true e false f = told_8 p h (is (Err Diagonalisation) (leaving_refused r e f))
      by true e true f = told_accepted p h (is (Ok tt) (staying_accepted r e f))

-- the same matrix, the same answer
pub one_answer : (m : Matrix) (p q : Passes) → PassesPromise m p → PassesPromise m q → p ≡ q
one_answer m p q h k = is_judged (every m) p h ∙ sym (is_judged (every m) q k)

-- ---- what it says

leaves_by : {m : Matrix} (r : Run m) → Leaves m → all small (all_assigned r) ≡ false
leaves_by r l = by (all small (all_assigned r)) refl
  where
    by : (b : Bool) → all small (all_assigned r) ≡ b → b ≡ false
    by true e = absurd (stays r (rw e tt) l)
    by false e = refl

stays_by : {m : Matrix} (r : Run m) → (Leaves m → ⊥) → all small (all_assigned r) ≡ true
stays_by r n = by (all small (all_assigned r)) refl
  where
    by : (b : Bool) → all small (all_assigned r) ≡ b → b ≡ true
    by true e = refl
    by false e = absurd (n (r, rw e tt))

module _ (m : Matrix) (p : Passes) (h : PassesPromise m p) where
  -- it is refused as `snf` is
  pub refused_as_snf :
      {S : Type 0} (f : S → State) (r : Result S Refusal) → SnfPromise m (outcome f r) → (passes_told p).0 ≡ verdict_in r
  unfolding numbered
  refused_as_snf f r q =
      checked_unique (snf_conditions m) tt (passes_told p).0 (verdict_in r) h.0 (checked_in (snf_conditions m) (IsSnf m) f r q)

  is_outside : in_range m ≡ false → p ≡ Outside
  is_outside e = is_judged (every m) p h ∙ rw e refl

  module _ (r : Run m) (e : in_range m ≡ true) where
    pub is_left : all small (all_assigned r) ≡ false → p ≡ Left (begun_of r)
    is_left f = is_judged r p h ∙ rw (e, f) refl

    pub is_counted : all small (all_assigned r) ≡ true → p ≡ Counted (passes_of r)
    is_counted f = is_judged r p h ∙ rw (e, f) refl

  number_told :
      (r : Run m) → number (passes_told p).0 ≡ cond (in_range m) (cond (all small (all_assigned r)) 0 8) 3
  number_told r = ap (λ q. number (passes_told q).0) (is_judged r p h) ∙ by (in_range m) (all small (all_assigned r))
    where
      by :
          (a b : Bool) →
          number (passes_told (cond a (cond b (Counted (passes_of r)) (Left (begun_of r))) Outside)).0
          ≡ cond a (cond b 0 8) 3
      by false b = refl
      by true true = refl
      by true false = refl

  -- 3 exactly where an entry is outside -31..31: the number alone
  pub outside_alone : (passes_told p ≡ (Err MatrixEntry, none)) ↔ (in_range m ≡ false)
  outside_alone = (
    λ e. by (in_range m) (all small (all_assigned (every m))) (sym (number_told (every m)) ∙ ap (λ o. number o.0) e),
    λ e. ap passes_told (is_outside e),
  )
    where
      by : (a b : Bool) → cond {A = ℕ} a (cond b 0 8) 3 ≡ 3 → a ≡ false
      by false b e = refl
      by true true e = absurd (omega (arith, e))
      by true false e = absurd (omega (arith, e))

  -- 8 exactly where 3 does not apply and an assigned entry leaves -511..511
  pub eight : ((passes_told p).0 ≡ Err Diagonalisation) ↔ ((in_range m ≡ true) × Leaves m)
  eight = (
    λ e.
        by (in_range m) refl (all small (all_assigned (every m))) refl (sym (number_told (every m)) ∙ ap number e),
    λ l. ap (λ q. (passes_told q).0) (is_left (every m) l.0 (leaves_by (every m) l.1)),
  )
    where
      by :
          (a : Bool) → in_range m ≡ a → (b : Bool) → all small (all_assigned (every m)) ≡ b →
          cond {A = ℕ} a (cond b 0 8) 3 ≡ 8 → (in_range m ≡ true) × Leaves m
      by false f b g e = absurd (omega (arith, e))
      by true f true g e = absurd (omega (arith, e))
      by true f false g e = (f, (every m, rw g tt))

  -- "This holds of every matrix in range."
  module _ (r : Run m) (e : in_range m ≡ true) where
    -- "The count reported for each of the three stages equals the passes of the definition"
    pub counted : (Leaves m → ⊥) → passes_told p ≡ ((Ok tt), some (passes_of r))
    counted n = ap passes_told (is_counted r e (stays_by r n))

    -- "where 8 applies, it answers 8 together with the passes begun up to there, stages not reached counting 0"
    pub left_with : Leaves m → passes_told p ≡ (Err Diagonalisation, some (begun_of r))
    left_with l = ap passes_told (is_left r e (leaves_by r l))
