-- The passes of a stage that are begun up to the first that assigns an entry outside -511..511.
use Rattle.std.specs.Prelude.{ℕ, suc, ◌+◌, ◌≤◌, ◌≡◌, refl, Bool, true, false, cond, ◌&&◌, List, [], ◌∷◌, ◌++◌, length, ℤ}
use Rattle.std.proofs.Common.{sym, ap, ◌∙◌, append-nil, arith}
use Rattle.definitions.specs.declared.Stages.{Stages}
use Rattle.definitions.specs.Lists.{all, each}
use Rattle.definitions.specs.Limits.{small}
use Rattle.definitions.specs.Matrix.{Matrix}
use Rattle.definitions.specs.Snf.{pivot, Run, all_small, begun, begun_of, passes_of}
use Rattle.laws.specs.Tests.{both_true}
use Rattle.laws.specs.Lists.{all_append, each_append}
use Rattle.math_snf_laws.specs.Stages.{most}

-- ---- in range, pass by pass

pub small_append : (a b : List (List ℤ)) → all_small (a ++ b) ≡ (all_small a && all_small b)
small_append a b =
    ap (all small) (each_append (λ x. x) a b) ∙ all_append small (each (λ x. x) a) (each (λ x. x) b)

pub small_cons : (x : List ℤ) (l : List (List ℤ)) → all_small (x ∷ l) ≡ (all small x && all_small l)
unfolding each
small_cons x l = all_append small x (each (λ a. a) l)

pub small_one : (x : List ℤ) → all_small (x ∷ []) ≡ all small x
unfolding each
small_one x = ap (all small) (append-nil x)

-- ---- the passes of a stage

-- those in range are all begun, and then those behind them are
pub begun-append : (a b : List (List ℤ)) → all_small a ≡ true → begun (a ++ b) ≡ length a + begun b
unfolding begun
begun-append [] b e = omega arith
begun-append (x ∷ a) b e =
    let h = both_true (all small x) (all_small a) (sym (small_cons x a) ∙ e) in
    rw h.0 (omega (arith, begun-append a b h.1))

-- the next one is begun, and where it leaves the range it is the last
pub begun_one : (x : List ℤ) → begun (x ∷ []) ≡ 1
unfolding begun
begun_one x = by (all small x)
  where
    by : (b : Bool) → cond {A = ℕ} b 1 1 ≡ 1
    by true = refl
    by false = refl

pub begun_left : (x : List ℤ) (l : List (List ℤ)) → all small x ≡ false → begun (x ∷ l) ≡ 1
unfolding begun
begun_left x l e = rw e

pub begun_all : (l : List (List ℤ)) → all_small l ≡ true → begun l ≡ length l
unfolding begun
begun_all l e = ap begun (sym (append-nil l)) ∙ begun-append l [] e ∙ omega arith

pub begun_some : (l : List (List ℤ)) → begun l ≤ length l
unfolding begun
begun_some [] = omega arith
begun_some (x ∷ l) = by (all small x) (begun_some l)
  where
    by : (b : Bool) → begun l ≤ length l → cond b (suc (begun l)) 1 ≤ suc (length l)
    by true h = omega arith
    by false h = omega arith

-- ---- the passes of a run

-- "at most one more than the magnitude of that stage's first pivot, or 0 where none exists": of D as the stage begins
pub record AtMost {m : Matrix} (r : Run m) (s : Stages) : Type 0 where
  pub of_first : s.first ≤ most m (pivot 0 m)
  pub of_second : s.second ≤ most r.first.d (pivot 1 r.first.d)
  pub of_third : s.third ≤ most r.second.d (pivot 2 r.second.d)

module _ {m : Matrix} (r : Run m) where
  -- where no entry leaves, all passes are begun
  pub all-begun : all_small (r.assigned₀ ++ r.assigned₁ ++ r.assigned₂) ≡ true → begun_of r ≡ passes_of r
  all-begun e =
      let a = r.assigned₀ in
      let b = r.assigned₁ in
      let c = r.assigned₂ in
      let h = both_true (all_small (a ++ b)) (all_small c) (sym (small_append (a ++ b) c) ∙ e) in
      let k = both_true (all_small a) (all_small b) (sym (small_append a b) ∙ h.0) in
      rw (h.0, k.0, begun_all a k.0, begun_all b k.1, begun_all c h.1)
