-- A stage clears its row and column, ends, and can go one way only.
use Rattle.std.specs.Prelude.{ℕ, zero, suc, ◌<◌, ◌≤◌, ◌≡◌, refl, Bool, true, false, List, T, length, ℤ, pos}
use Rattle.std.proofs.Common.{sym, subst, arith, le_trans, le_of_suc-le-suc}
use Rattle.std.proofs.Math.Option.{Option, none, some}
use Rattle.std.specs.Int.Signed.{non_neg}
use Rattle.definitions.specs.Matrix.{Matrix, at}
use Rattle.definitions.specs.Snf.{State, Place, size_at, pivot, moved, signed, pass, Stage, empty, last, again}
use Rattle.math_snf_laws.specs.Steps.{In, behind_in}
use Rattle.math_snf_laws.specs.Pivot.{chosen, nothing}
use Rattle.math_snf_laws.specs.Stable.{stable_pass}
use Rattle.math_snf_laws.specs.Done.{Done, done, done_more}
use Rattle.math_snf_laws.specs.Numbers.{none_is}
use Rattle.math_snf_laws.specs.Reduced.{cleared_quiet, ready, falls}

-- ---- the row and column of the stage

not_below : {n : ℕ} (z : ℤ) → z ≡ pos n → T (non_neg z)
not_below z e = subst (λ x. T (non_neg x)) (sym e) tt

pub done-stage : {s : ℕ} {t u : State} {a : List (List ℤ)} → In s s → Stage s t a u → Done s t.d → Done (suc s) u.d
done-stage {s} i (empty {t = t} e) h =
    let z : (x y : ℕ) → In s x → In s y → at t.d x y ≡ pos 0 = λ x y f g. none_is (at t.d x y) (nothing t.d e x y f g) in
    done_more t.d i h (λ j b. z j s (behind_in b) i) (λ j b. z s j i (behind_in b)) (not_below (at t.d s s) (z s s i i))
done-stage {s} i (last {t = t} p e f) h =
    let c = chosen t.d p i e in
    let k = cleared_quiet (signed s (moved s p t)) (ready s p t c) i f in
    done_more (pass s p t).state.d i
    (stable_pass {Q = λ v. Done s v.d} {p = p} (done s) c.row c.column t h)
    k.rows
    k.columns
    (not_below (at (pass s p t).state.d s s) k.corner)
done-stage {s} i (again {t = t} p e f r) h =
    let c = chosen t.d p i e in
    done-stage i r (stable_pass {Q = λ v. Done s v.d} {p = p} (done s) c.row c.column t h)

-- ---- the number of passes

-- one more than the magnitude of the pivot; 0 where there is none
abbrev pub most : Matrix → Option Place → ℕ
most m none = 0
most m (some p) = suc (size_at m p)

module _ (s n : ℕ) (u : State) (above : 0 < n) (less : (q : Place) → pivot s u.d ≡ some q → (pass s q u).updated ≡ true → size_at u.d q < n) where
  next-passes : {w : State} {rest : List (List ℤ)} → Stage s u rest w → length rest ≤ most u.d (pivot s u.d) → length rest ≤ n
  next-passes (empty e) h = omega arith
  next-passes (last q e f) h = above
  next-passes (again {rest = rest} q e f r) h = let l = less q e f in let k = subst (λ (o : Option Place). suc (length rest) ≤ most u.d o) e h in le_trans k l

pub stage-passes : {s : ℕ} {t u : State} {a : List (List ℤ)} → In s s → Stage s t a u → length a ≤ most t.d (pivot s t.d)
stage-passes {s} i (empty {t = t} e) = rw e (omega arith)
stage-passes {s} i (last {t = t} p e f) = rw e (omega arith)
stage-passes {s} i (again {t = t} {rest = rest} p e f r) =
    let c = chosen t.d p i e in
    let l = next-passes s (size_at t.d p) (pass s p t).state c.above (λ q g h. falls s p t c q (chosen (pass s p t).state.d q i g) h) r (stage-passes i r) in
    subst (λ (o : Option Place). suc (length rest) ≤ most t.d o) (sym e) (omega arith)

-- ---- there is one, and only one

abbrev Found : ℕ → State → Type 0
Found s t = (a : List (List ℤ)) × (u : State) × Stage s t a u

-- a pass from t that updates has a pivot below n
abbrev Below : ℕ → ℕ → State → Type 0
Below s n t = (p : Place) → pivot s t.d ≡ some p → (pass s p t).updated ≡ true → size_at t.d p < n

module _ {s n : ℕ} (i : In s s) (t : State) (h : Below s n t) (go_on : (m : ℕ) → m < n → (u : State) → Below s m u → Found s u) where
  at_pass : (p : Place) (b : Bool) → pivot s t.d ≡ some p → (pass s p t).updated ≡ b → Found s t
  at_pass p true e f =
      let c = chosen t.d p i e in
      let r = go_on (size_at t.d p) (h p e f) (pass s p t).state (λ q g k. falls s p t c q (chosen (pass s p t).state.d q i g) k) in
      (_, _, again p e f r.2)
  at_pass p false e f = (_, _, last p e f)

  at_pivot : (o : Option Place) → pivot s t.d ≡ o → Found s t
  at_pivot none e = (_, _, empty e)
  at_pivot (some p) e = at_pass p (pass s p t).updated e refl

find : {s : ℕ} (n : ℕ) → In s s → (t : State) → Below s n t → Found s t
find {s} zero i t h = at_pivot i t h (λ m l u b. absurd (omega arith)) (pivot s t.d) refl
find {s} (suc n) i t h = at_pivot i t h (λ m l u b. find n i u (λ p e f. le_trans (b p e f) (le_of_suc-le-suc l))) (pivot s t.d) refl

-- more than the pivot's magnitude
above_pivot : Matrix → Option Place → ℕ
above_pivot m none = 0
above_pivot m (some p) = suc (size_at m p)

pub stage_found : {s : ℕ} → In s s → (t : State) → (a : List (List ℤ)) × (u : State) × Stage s t a u
unfolding above_pivot
stage_found {s} i t = find (above_pivot t.d (pivot s t.d)) i t (λ p e f. rw e (omega arith))
