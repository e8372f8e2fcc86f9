-- The search for the first near square, place by place and list by list.
use Prim.Native.Nat.{ℕ, suc, ◌+◌, ◌≤◌, ◌<◌}
use native.Mathlib.Nat.{add-zero}
use mathlib.Core.Path.{◌≡◌, refl, sym, ◌∙◌}
use mathlib.Core.Bool.{Bool, true, false, cond}
use mathlib.Core.List.{List, [], ◌∷◌, ◌++◌}
use native.Mathlib.Numerals.{add-one}
use native.Mathlib.Omega.{arith}
use lib.ListN.{length, get_or, drop, drop_of_length-le}
use lib.Seq.{drop-cons}
use lib.Ieee.{Float, nan, lt}
use Rattle.std.specs.Prelude.{Option, Some, None}
use Rattle.definitions.specs.declared.Fit.{Fit}
use Rattle.definitions.specs.Real.{sqrt}
use Rattle.symmetrize_match.specs.Match.{fit, first_near}

-- the first of a list: its answer, or that of the others
module _ (symprec : Float) (k : ℕ) (a : Float) (l : List Float) where
  pub head_fits : (x : Fit) → first_near symprec k (a ∷ []) ≡ Some x → first_near symprec k (a ∷ l) ≡ Some x
  unfolding first_near
  head_fits x = by (lt (sqrt a) symprec)
    where
      by : (b : Bool) → cond b (Some (fit k (sqrt a))) None ≡ Some x → cond b (Some (fit k (sqrt a))) (first_near symprec (suc k) l) ≡ Some x
      by true e = e
      by false e = let z : ◌≡◌ {A = ℕ} 0 1 = cc in absurd (omega arith)

  pub head_misses : first_near symprec k (a ∷ []) ≡ None → first_near symprec k (a ∷ l) ≡ first_near symprec (suc k) l
  unfolding first_near
  head_misses = by (lt (sqrt a) symprec)
    where
      by : (b : Bool) → cond b (Some (fit k (sqrt a))) None ≡ None → cond b (Some (fit k (sqrt a))) (first_near symprec (suc k) l) ≡ first_near symprec (suc k) l
      by true e = let z : ◌≡◌ {A = ℕ} 0 1 = cc in absurd (omega arith)
      by false e = refl

-- from the place i of a list on, where m is what the search says of that place alone
module _ (symprec : Float) (l : List Float) (k i : ℕ) where
  pub on_fit : (m : Option Fit) (x : Fit) → i < length l → m ≡ first_near symprec k (get_or l i nan ∷ []) → m ≡ Some x → first_near symprec k (drop i l) ≡ Some x
  on_fit m x h e f = rw (drop-cons l i nan) (head_fits symprec k (get_or l i nan) (drop (suc i) l) x (sym e ∙ f))

  pub on_miss : (m : Option Fit) → i < length l → m ≡ first_near symprec k (get_or l i nan ∷ []) → m ≡ None → first_near symprec k (drop i l) ≡ first_near symprec (k + 1) (drop (i + 1) l)
  on_miss m h e f = rw (add-one, add-one, drop-cons l i nan) (head_misses symprec k (get_or l i nan) (drop (suc i) l) (sym e ∙ f))

  pub at_end_lem : length l ≤ i → first_near symprec k (drop i l) ≡ None
  unfolding first_near
  at_end_lem h = rw (drop_of_length-le l h)

-- one list behind another
module _ (symprec : Float) (ys : List Float) where
  pub append_fits : (k : ℕ) (xs : List Float) (x : Fit) → first_near symprec k xs ≡ Some x → first_near symprec k (xs ++ ys) ≡ Some x
  unfolding first_near
  append_fits k [] x e = let z : ◌≡◌ {A = ℕ} 0 1 = cc in absurd (omega arith)
  append_fits k (a ∷ xs) x e = by (lt (sqrt a) symprec) (append_fits (suc k) xs x) e
    where
      by : (b : Bool) → (first_near symprec (suc k) xs ≡ Some x → first_near symprec (suc k) (xs ++ ys) ≡ Some x)
          → cond b (Some (fit k (sqrt a))) (first_near symprec (suc k) xs) ≡ Some x → cond b (Some (fit k (sqrt a))) (first_near symprec (suc k) (xs ++ ys)) ≡ Some x
      by true f e = e
      by false f e = f e

  pub append_misses : (k : ℕ) (xs : List Float) → first_near symprec k xs ≡ None → first_near symprec k (xs ++ ys) ≡ first_near symprec (k + length xs) ys
  unfolding first_near
  append_misses k [] e = rw add-zero
  append_misses k (a ∷ xs) e =
      let n : k + suc (length xs) ≡ suc k + length xs = omega arith in
      rw n (by (lt (sqrt a) symprec) (append_misses (suc k) xs) e)
    where
      by : (b : Bool) → (first_near symprec (suc k) xs ≡ None → first_near symprec (suc k) (xs ++ ys) ≡ first_near symprec (suc k + length xs) ys)
          → cond b (Some (fit k (sqrt a))) (first_near symprec (suc k) xs) ≡ None → cond b (Some (fit k (sqrt a))) (first_near symprec (suc k) (xs ++ ys)) ≡ first_near symprec (suc k + length xs) ys
      by true f e = let z : ◌≡◌ {A = ℕ} 0 1 = cc in absurd (omega arith)
      by false f e = f e
