-- The table of counts: after j labels it has how often each was met.
use Prim.Native.Nat.{ℕ, ◌+◌, ◌≤◌, ◌<◌}
use mathlib.Core.Path.{◌≡◌, refl, sym, ap, ◌∙◌}
use mathlib.Core.Bool.{Bool, true, false}
use mathlib.Core.List.{List}
use native.Mathlib.Omega.{arith}
use borrow.Author.Tests.{eqb-true, eqb-false}
use lib.Dec.{eqb}
use lib.ListN.{length, get_or, set, take, replicate, length-take, length-map}
use lib.Seq.{get_or-set_same, get_or-set_other, take-length}
use Rattle.definitions.specs.Lists.{count}
use Rattle.definitions.specs.Orbit.{multiplicities}
use Rattle.laws.specs.Counting.{bit, count-more, count_most}
use Rattle.laws.specs.Filling.{zeros}
use Rattle.laws.specs.Lists.{map_at}
use Rattle.base_cell.specs.Grouping.{Counted}

pub counted_none : (n : ℕ) (l : List ℕ) → Counted n (take 0 l) (replicate n 0)
unfolding count
counted_none n l x h = zeros {A = ℕ} 0 n x

module _ (n : ℕ) (l : List ℕ) (j : ℕ) (table : List ℕ) (counted : Counted n (take j l) table) (hj : j < length l) where
  -- a count so far is no larger than the number of labels met
  pub count_small : (x : ℕ) → x < n → get_or table x 0 ≤ j
  count_small x h = omega (arith, counted x h, count_most (eqb x) (take j l), length-take j l)

  pub counted-more :
      (x : ℕ) → x < n → x ≡ get_or l j 0 → length table ≡ n → Counted n (take (j + 1) l) (set table x (get_or table x 0 + 1))
  counted-more x hx is size y hy = by (eqb y x) refl
    where
      more : count (eqb y) (take (j + 1) l) ≡ get_or table y 0 + bit (eqb y x)
      more = rw is (count-more (eqb y) 0 l j hj ∙ ap (λ c. c + bit (eqb y (get_or l j 0))) (sym (counted y hy)))

      by : (t : Bool) → eqb y x ≡ t → get_or (set table x (get_or table x 0 + 1)) y 0 ≡ count (eqb y) (take (j + 1) l)
      by true e =
          let same = eqb-true y x e in
          let at : get_or (set table x (get_or table x 0 + 1)) x 0 ≡ get_or table x 0 + 1 = get_or-set_same table x (get_or table x 0 + 1) 0 (omega arith) in
          omega (arith, more, ap bit e, ap (λ k. get_or (set table x (get_or table x 0 + 1)) k 0) same, at, ap (λ k. get_or table k 0) same)
      by false e =
          omega (arith, more, ap bit e, get_or-set_other table x y (get_or table x 0 + 1) 0 (eqb-false y x e))

pub counted-all : (n : ℕ) (l : List ℕ) (j : ℕ) (table : List ℕ) → Counted n (take j l) table → j ≡ length l → Counted n l table
counted-all n l j table counted e x h = counted x h ∙ rw (e, take-length l)

-- ---- the multiplicities

pub length-multiplicities : (l : List ℕ) → length (multiplicities l) ≡ length l
unfolding multiplicities
length-multiplicities l = length-map l (λ x. count (eqb x) l)

pub multiplicity_at :
    (n : ℕ) (l table : List ℕ) → Counted n l table → (j x r : ℕ) → j < length l → x ≡ get_or l j 0 → x < n → r ≡ get_or table x 0 →
    r ≡ get_or (multiplicities l) j 0
unfolding multiplicities
multiplicity_at n l table counted j x r hj is hx e =
    e ∙ counted x hx ∙ ap (λ y. count (eqb y) l) is ∙ sym (map_at (λ y. count (eqb y) l) l j 0 0 hj)
