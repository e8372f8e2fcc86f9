-- Laws of tests: what holds of a test from its parts, and of its parts from the whole.
use Rattle.std.specs.Prelude.{ℕ, ◌≡◌, refl, Bool, true, false, not, ◌&&◌, ◌||◌, T}
use Rattle.std.proofs.Common.{sym, ap, subst, ◌∙◌, arith}

pub never : false ≡ true → ⊥
never e = let z : ◌≡◌ {A = ℕ} 0 1 = cc in omega arith

-- ---- a test as a fact

pub true_of : (b : Bool) → T b → b ≡ true
true_of true h = refl
true_of false h = absurd h

pub so : {b : Bool} → b ≡ true → T b
so e = subst T (sym e) tt

pub not_so : {b : Bool} → b ≡ false → T b → ⊥
not_so e = subst T e

-- a test that does not hold
pub off : (b : Bool) → (T b → ⊥) → b ≡ false
off true f = absurd (f tt)
off false f = refl

pub passed : (b : Bool) → (T (not b) → ⊥) → T b
passed true h = tt
passed false h = absurd (h tt)

-- ---- both

pub both_pass : (a b : Bool) → T (a && b) → T a × T b
both_pass true b h = (tt, h)
both_pass false b h = absurd h

pub both_true : (a b : Bool) → (a && b) ≡ true → (a ≡ true) × (b ≡ true)
both_true true b e = (refl, e)
both_true false b e = absurd (never e)

pub pass_both : (a b : Bool) → T a → T b → T (a && b)
pass_both true b h i = i
pass_both false b h i = absurd h

pub and_left : (a b : Bool) → T (a && b) → T a
and_left a b h = (both_pass a b h).0

pub and_right : (a b : Bool) → T (a && b) → T b
and_right a b h = (both_pass a b h).1

pub and-true : (b : Bool) → (b && true) ≡ b
and-true true = refl
and-true false = refl

-- ---- one of two

pub or_left : {a : Bool} (b : Bool) → a ≡ true → (a || b) ≡ true
or_left b e = rw e

pub or_right : (a : Bool) {b : Bool} → b ≡ true → (a || b) ≡ true
or_right true e = refl
or_right false e = e

pub neither : {a b : Bool} → a ≡ false → b ≡ false → (a || b) ≡ false
neither e f = rw (e, f)

pub neither_left : (a b : Bool) → (a || b) ≡ false → a ≡ false
neither_left true b e = e
neither_left false b e = refl

pub neither_right : (a b : Bool) → (a || b) ≡ false → b ≡ false
neither_right true b e = absurd (never (sym e))
neither_right false b e = e

-- tests in a row: the first fails, and the answer is the second's
pub as_second : (a b r : Bool) → a ≡ false → r ≡ b → r ≡ (a || b)
as_second a b r e f = rw e f

-- ---- tests that the code joins by `&` of what passes, and the conditions by `||` of what fails

pub not_not : (b : Bool) → b ≡ not (not b)
not_not true = refl
not_not false = refl

pub not_either : (a b : Bool) → (not a && not b) ≡ not (a || b)
not_either true b = refl
not_either false b = refl

pub each_of_three : (a b c : Bool) → (a && b && c) ≡ not (not a || not b || not c)
each_of_three true true true = refl
each_of_three true true false = refl
each_of_three true false c = refl
each_of_three false b c = refl

pub without : (a b : Bool) → (not a && b) ≡ not (a || not b)
without true b = refl
without false true = refl
without false false = refl

-- what an answer r of the test of b says, after a branch on `!r`
module _ (r b : Bool) (e : r ≡ not b) where
  pub branch_fails : not r ≡ true → b ≡ true
  branch_fails t = by b r e t
    where
      by : (b r : Bool) → r ≡ not b → not r ≡ true → b ≡ true
      by true r e t = refl
      by false r e t = sym (ap not e) ∙ t

  pub branch_passes : not r ≡ false → b ≡ false
  branch_passes t = by b r e t
    where
      by : (b r : Bool) → r ≡ not b → not r ≡ false → b ≡ false
      by false r e t = refl
      by true r e t = sym (ap not e) ∙ t
