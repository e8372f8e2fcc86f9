-- The inverse, placed entry by entry: after i of them the cell of the image of each j below i holds j.
use Prim.Native.Nat.{ℕ, ◌+◌, ◌≤◌, ◌<◌}
use mathlib.Core.Path.{◌≡◌, sym, ap, ◌∙◌}
use mathlib.Core.List.{List, map, ◌++◌}
use native.Mathlib.Omega.{arith}
use lib.ListN.{length, get_or, set, take, drop, take-append-drop, length-map}
use lib.Seq.{get_or-set_same, get_or-set_other, get_or-take, length-take-le, ext_get_or}
use borrow.Author.Count.{below_more}
use Rattle.definitions.specs.Lists.{up_to}
use Rattle.definitions.specs.Permutation.{image, inverse_image}
use Rattle.base_permutation.specs.Bijection.{Bijection, inverse_below, image-inverse, image-sites}
use Rattle.laws.specs.Counting.{length-up_to}

abbrev pub Placed : List ℕ → ℕ → List ℕ → Type 0
Placed p i out = (j : ℕ) → j < i → get_or out (image p j) 0 ≡ j

module _ (n : ℕ) (p : List ℕ) (b : Bijection n p) (out : List ℕ) (room : n ≤ length out) where
  pub place : (i x : ℕ) → i < n → x ≡ image p i → Placed p i out → Placed p (i + 1) (set out x i)
  place i x k e h =
      below_more (λ j. get_or (set out x i) (image p j) 0 ≡ j) i
      (λ j l. get_or-set_other out x (image p j) i 0 (λ q. omega (arith, b.once j i (omega arith) k (q ∙ e))) ∙ h j l)
      (rw (← e) (get_or-set_same out x i 0 (omega (arith, b.below i k))))

  pub placed : (d : List ℕ) → Placed p n out → drop n out ≡ drop n d → out ≡ map (inverse_image p) (up_to n) ++ drop n d
  placed d h rest =
      sym (take-append-drop n out) ∙ rw rest (ap (λ l. l ++ drop n d) front)
    where
      long : length (map (inverse_image p) (up_to n)) ≡ n
      long = length-map (up_to n) (inverse_image p) ∙ length-up_to n

      front : take n out ≡ map (inverse_image p) (up_to n)
      front = ext_get_or 0 (take n out) (map (inverse_image p) (up_to n)) (length-take-le n out room ∙ sym long) (λ i k.
          let l : i < n = omega (arith, length-take-le n out room) in
          get_or-take n out i 0 l
          ∙ sym (ap (λ y. get_or out y 0) (image-inverse n p b i l))
          ∙ h (inverse_image p i) (inverse_below n p b i l)
          ∙ sym (image-sites (inverse_image p) n i l))
