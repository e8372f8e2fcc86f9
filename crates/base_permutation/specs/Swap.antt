-- Two entries of a permutation swapped are a permutation again.
use Rattle.std.specs.Prelude.{ℕ, ◌<◌, ◌≡◌, Bool, true, false, List, eqb, length, set}
use Rattle.std.proofs.Math.Path.{refl}
use Rattle.std.proofs.Common.{sym, ◌∙◌, arith, length-set, get_or-set_same, lt-length-set, eqb-true}
use Rattle.std.proofs.Math.Seq.{get_or-set_other}
use Rattle.std.proofs.lemmas.Bool.{eqb-false}
use Rattle.definitions.specs.Permutation.{image}
use Rattle.definitions.specs.Shuffle.{swap}
use Rattle.base_permutation.specs.Bijection.{Bijection}

-- where entries i and j are swapped, the one at x comes from y
data From (i j x y : ℕ) : Type 0 where
  at_j : x ≡ j → y ≡ i → From i j x y
  at_i : x ≡ i → y ≡ j → From i j x y
  apart : (x ≡ i → ⊥) → (x ≡ j → ⊥) → x ≡ y → From i j x y

-- no two come from one place
from_once : {i j x y v w : ℕ} → From i j x y → From i j v w → y ≡ w → x ≡ v
from_once (at_j a b) (at_j c d) e = omega arith
from_once (at_j a b) (at_i c d) e = omega arith
from_once (at_j a b) (apart c d f) e = absurd (c (omega arith))
from_once (at_i a b) (at_j c d) e = omega arith
from_once (at_i a b) (at_i c d) e = omega arith
from_once (at_i a b) (apart c d f) e = absurd (d (omega arith))
from_once (apart a b g) (at_j c d) e = absurd (a (omega arith))
from_once (apart a b g) (at_i c d) e = absurd (b (omega arith))
from_once (apart a b g) (apart c d f) e = omega arith

module _ (n i j : ℕ) (p : List ℕ) (size : length p ≡ n) (h : i < n) (k : j < n) where
  Came : ℕ → Type 0
  Came x = (y : ℕ) × (y < n) × (image (swap i j p) x ≡ image p y) × From i j x y

  came : (x : ℕ) → x < n → Came x
  unfolding Came
  came x l = by (eqb x j) refl (eqb x i) refl
    where
      beside : (x ≡ j → ⊥) → image (swap i j p) x ≡ image (set p i (image p j)) x
      beside = get_or-set_other (set p i (image p j)) j x (image p i) 0

      by : (a : Bool) → eqb x j ≡ a → (b : Bool) → eqb x i ≡ b → Came x
      by true e b f =
          let q = eqb-true x j e in
          let room : j < length (set p i (image p j)) = lt-length-set p i (image p j) (omega arith) in
          (i, h, rw q (get_or-set_same (set p i (image p j)) j (image p i) 0 room), at_j q refl)
      by false e true f =
          let q = eqb-true x i f in
          (j, k, beside (eqb-false x j e) ∙ rw q (get_or-set_same p i (image p j) 0 (omega arith)), at_i q refl)
      by false e false f =
          let off-i = eqb-false x i f in
          let off-j = eqb-false x j e in
          (x, l, beside off-j ∙ get_or-set_other p i x (image p j) 0 off-i, apart off-i off-j refl)

pub swap_bijection : (n i j : ℕ) (p : List ℕ) → i < n → j < n → Bijection n p → Bijection n (swap i j p)
unfolding Came
swap_bijection n i j p h k b = record {
  size = length-set (set p i (image p j)) j (image p i) ∙ length-set p i (image p j) ∙ b.size;
  below = λ x l. let c = came n i j p b.size h k x l in rw c.2 (b.below c.0 c.1);
  once = λ x v l m e.
      let c = came n i j p b.size h k x l in
      let d = came n i j p b.size h k v m in
      from_once c.3 d.3 (b.once c.0 d.0 c.1 d.1 (sym c.2 ∙ e ∙ d.2));
}
