-- Cells made one by one, in any order: those of the turns before j are made, and the others are as they were.
use Prim.Native.Nat.{ℕ, ◌+◌, ◌≤◌, ◌<◌}
use mathlib.Core.Path.{◌≡◌, refl, sym, ap, ◌∙◌}
use mathlib.Core.Bool.{Bool, true, false}
use mathlib.Core.List.{List, []}
use native.Mathlib.Omega.{arith}
use lib.Dec.{eqb}
use lib.ListN.{length, get_or, set, drop}
use lib.Seq.{get_or-set_same, get_or-set_other, drop-set-lt}
use lib.Ieee.{Float}
use borrow.Author.Tests.{eqb-true, eqb-false}
use Rattle.definitions.specs.Permutation.{image, inverse_image, is_permutation}
use Rattle.base_permutation.specs.Bijection.{bijection, inverse_below, image-inverse, inverse-image}
use Rattle.symmetrize_positions.specs.Targets.{Made}

-- turn j makes the cell `place j`, and the cell a is made at `turn a`
pub record Turns (n : ℕ) (place turn : ℕ → ℕ) : Type 0 where
  pub below : (j : ℕ) → j < n → place j < n
  pub within : (a : ℕ) → a < n → turn a < n
  pub back : (j : ℕ) → j < n → turn (place j) ≡ j
  pub there : (a : ℕ) → a < n → place (turn a) ≡ a

pub in_order : (n : ℕ) → Turns n (λ j. j) (λ a. a)
in_order n = record { below = λ j k. k; within = λ a k. k; back = λ j k. refl; there = λ a k. refl }

pub permuted : (n : ℕ) (p : List ℕ) → is_permutation n p ≡ true → Turns n (image p) (inverse_image p)
permuted n p t =
    let b = bijection n p t in
    record { below = b.below; within = inverse_below n p b; back = inverse-image n p b; there = image-inverse n p b }

module _ (n : ℕ) (turn : ℕ → ℕ) (f : ℕ → List Float → List Float) (d : List (List Float)) where
  abbrev pub MadeTo : ℕ → List (List Float) → Type 0
  MadeTo j l = (drop n l ≡ drop n d) × ((a : ℕ) → a < n → (turn a < j → get_or l a [] ≡ f a (get_or d a [])) × (j ≤ turn a → get_or l a [] ≡ get_or d a []))

module _ (n : ℕ) (place turn : ℕ → ℕ) (o : Turns n place turn) (f : ℕ → List Float → List Float) (d : List (List Float)) where
  pub make_step : (l : List (List Float)) (j i : ℕ) (x : List Float) → n ≤ length l → j < n → i ≡ place j → x ≡ f i (get_or l i []) → MadeTo n turn f d j l → MadeTo n turn f d (j + 1) (set l i x)
  make_step l j i x room k e g u = (drop-set-lt n l i x i_below ∙ u.0, λ a h. by a h (eqb a i) refl)
    where
      i_below : i < n
      i_below = rw e (o.below j k)

      its_turn : turn i ≡ j
      its_turn = ap turn e ∙ o.back j k

      by : (a : ℕ) → a < n → (b : Bool) → eqb a i ≡ b
          → (turn a < j + 1 → get_or (set l i x) a [] ≡ f a (get_or d a [])) × (j + 1 ≤ turn a → get_or (set l i x) a [] ≡ get_or d a [])
      by a h true q =
          let same : a ≡ i = eqb-true a i q in
          let now : turn a ≡ j = ap turn same ∙ its_turn in
          let in_list : i < length l = omega (arith, i_below) in
          let old : get_or l i [] ≡ get_or d i [] = (u.1 i i_below).1 (omega (arith, its_turn)) in
          let new : get_or (set l i x) a [] ≡ f a (get_or d a []) = rw same (get_or-set_same l i x [] in_list ∙ g ∙ ap (f i) old) in
          (λ m. new, λ m. absurd (omega arith))
      by a h false q =
          let other : get_or (set l i x) a [] ≡ get_or l a [] = get_or-set_other l i a x [] (eqb-false a i q) in
          let not-now : turn a ≡ j → ⊥ = λ t. eqb-false a i q (sym (o.there a h) ∙ ap place t ∙ sym e) in
          (λ m. other ∙ (u.1 a h).0 (omega (arith, not-now)), λ m. other ∙ (u.1 a h).1 (omega arith))

  pub make_end : (l : List (List Float)) (j : ℕ) → n ≤ j → MadeTo n turn f d j l → Made f n d l
  make_end l j h u = record { front = λ a k. (u.1 a k).0 (omega (arith, o.within a k)); rest = u.0 }
