-- The code's tables of offsets are the definition's 125, in its order: the rule of each table, computed over all of its
-- entries.
use Prim.Native.Nat.{ℕ, zero, suc, ◌+◌, ◌<◌}
use mathlib.Core.Path.{◌≡◌, refl, sym, ap, ◌∙◌}
use mathlib.Core.List.{List, [], ◌∷◌, ◌++◌, map, map-map, map-append}
use native.Mathlib.Nat.{not-suc-le-zero, le_of_suc-le-suc}
use lib.ListN.{length, get_or, take, drop, length-map, take-append-drop}
use lib.IntN.{ℤ}
use native.Mathlib.Omega.{arith}
use lib.Seq.{ext_get_or}
use lib.Ieee.{Float, nan, binary64, neg, of_bits, of_int, round}
use Rattle.definitions.specs.declared.Position.{Position}
use Rattle.std.specs.Prelude.{Option, Some, None}
use Rattle.definitions.specs.declared.Fit.{Fit}
use Rattle.definitions.specs.Lists.{all, each, those}
use Rattle.definitions.specs.Real.{RealMatrix, origin}
use Rattle.definitions.specs.Cell.{point_of}
use Rattle.definitions.specs.Wyckoff.{offsets}
use Rattle.laws.specs.Lists.{map_at}
use Rattle.symmetrize_match.specs.declared.offsets.TheConstants.{INNER, OUTER}
use Rattle.symmetrize_match.specs.declared.RealSpace.{RealSpace}
use Rattle.symmetrize_match.specs.Match.{square_real, squares_real, match_real, first_near, Column, cell, NearColumn}
use Rattle.symmetrize_match.proofs.Near.{append_fits, append_misses}

-- ---- three lists side by side

abbrev position : Float → Float → Float → Position
position x y z = record { x = x; y = y; z = z }

unfoldable points : List Float → List Float → List Float → List Position
points [] ys zs = []
points (x ∷ xs) [] zs = []
points (x ∷ xs) (y ∷ ys) [] = []
points (x ∷ xs) (y ∷ ys) (z ∷ zs) = position x y z ∷ points xs ys zs

points_at : (xs ys zs : List Float) (i : ℕ) → i < length (points xs ys zs) → get_or (points xs ys zs) i origin ≡ cell xs ys zs i
unfolding points
points_at [] ys zs i h = absurd (not-suc-le-zero h)
points_at (x ∷ xs) [] zs i h = absurd (not-suc-le-zero h)
points_at (x ∷ xs) (y ∷ ys) [] i h = absurd (not-suc-le-zero h)
points_at (x ∷ xs) (y ∷ ys) (z ∷ zs) zero h = refl
points_at (x ∷ xs) (y ∷ ys) (z ∷ zs) (suc i) h = points_at xs ys zs i (le_of_suc-le-suc h)

-- ---- the tables

abbrev minus_one : Float
minus_one = of_bits binary64 0xBFF0000000000000

inner_are : points INNER.x INNER.y INNER.z ≡ map point_of (take 26 (drop 1 offsets))
unfolding points offsets all each those neg of_bits of_int round
inner_are = refl

outer_are : points OUTER.x OUTER.y OUTER.z ≡ map point_of (drop 27 offsets)
unfolding points offsets all each those neg of_bits of_int round
outer_are = refl

-- the first offset of all
abbrev pub minus_ones : Position
minus_ones = position minus_one minus_one minus_one

pub first_is : (f : Position → Float) → f minus_ones ∷ [] ≡ map (λ o. f (point_of o)) (take 1 offsets)
unfolding offsets all each those of_bits of_int round
first_is f = refl

-- squares of offsets by their tables are those of the definition's
module _ (xs ys zs : List Float) (os : List (List ℤ)) (are : points xs ys zs ≡ map point_of os) where
  by_table : (f : Position → Float) (n : ℕ) (l : List Float) → length os ≡ n → Column n (λ i. f (cell xs ys zs i)) l → l ≡ map (λ o. f (point_of o)) os
  by_table f n l m c = ext_get_or nan l (map f (points xs ys zs)) (c.long ∙ sym long) at ∙ ap (map f) are ∙ map-map f point_of os
    where
      count : length (points xs ys zs) ≡ n
      count = ap length are ∙ length-map os point_of ∙ m

      long : length (map f (points xs ys zs)) ≡ n
      long = length-map (points xs ys zs) f ∙ count

      at : (i : ℕ) → i < length l → get_or l i nan ≡ get_or (map f (points xs ys zs)) i nan
      at i h =
          let k : i < n = omega (arith, c.long) in
          let b : i < length (points xs ys zs) = omega (arith, count) in
          c.each i k ∙ ap f (sym (points_at xs ys zs i b)) ∙ sym (map_at f (points xs ys zs) i origin nan b)

inner-count : length (take 26 (drop 1 offsets)) ≡ 26
unfolding offsets all each those
inner-count = refl

outer-count : length (drop 27 offsets) ≡ 98
unfolding offsets all each those
outer-count = refl

-- the match by squares of a table's offsets
module _ (symprec : Float) (f : Position → Float) (r : Option Fit) where
  near-inner :
      NearColumn symprec 1 26 (λ i. f (cell INNER.x INNER.y INNER.z i)) r → r ≡ first_near symprec 1 (map (λ o. f (point_of o)) (take 26 (drop 1 offsets)))
  near-inner c =
      c.near ∙ ap (first_near symprec 1) (by_table INNER.x INNER.y INNER.z (take 26 (drop 1 offsets)) inner_are f 26 c.squares inner-count c.column)

  near-outer :
      NearColumn symprec 27 98 (λ i. f (cell OUTER.x OUTER.y OUTER.z i)) r → r ≡ first_near symprec 27 (map (λ o. f (point_of o)) (drop 27 offsets))
  near-outer c =
      c.near ∙ ap (first_near symprec 27) (by_table OUTER.x OUTER.y OUTER.z (drop 27 offsets) outer_are f 98 c.squares outer-count c.column)

-- ---- one part of the offsets behind another

module _ (symprec : Float) (f : List ℤ → Float) (k : ℕ) (os rest : List (List ℤ)) where
  joined : first_near symprec k (map f (os ++ rest)) ≡ first_near symprec k (map f os ++ map f rest)
  joined = ap (first_near symprec k) (map-append f os rest)

  module _ (m : Option Fit) (e : m ≡ first_near symprec k (map f os)) where
    part_fits : (x : Fit) → m ≡ Some x → m ≡ first_near symprec k (map f (os ++ rest))
    part_fits x g = g ∙ sym (joined ∙ append_fits symprec (map f rest) k (map f os) x (sym e ∙ g))

    part_misses :
        (r : Option Fit) (n : ℕ) → k + length os ≡ n → m ≡ None → r ≡ first_near symprec n (map f rest) →
        r ≡ first_near symprec k (map f (os ++ rest))
    part_misses r n c g h =
        let z : k + length (map f os) ≡ n = omega (arith, length-map os f) in
        h ∙ sym (joined ∙ append_misses symprec (map f rest) k (map f os) (sym e ∙ g) ∙ ap (λ j. first_near symprec j (map f rest)) z)

-- the first and the other inner ones
inner_split : take 1 offsets ++ take 26 (drop 1 offsets) ≡ take 27 offsets
unfolding offsets all each those
inner_split = refl

first_count : 0 + length (take 1 offsets) ≡ 1
unfolding offsets all each those
first_count = refl

-- the inner and the outer ones
inner_long : 0 + length (take 27 offsets) ≡ 27
unfolding offsets all each those
inner_long = refl

-- ---- the runs, one behind the other

module _ (basis : RealMatrix) (symprec : Float) (s : RealSpace) (p : Position) where
  abbrev at_offset : List ℤ → Float
  at_offset o = square_real basis s p (point_of o)

  all_split : (n : ℕ) → first_near symprec 0 (map at_offset (take n offsets ++ drop n offsets)) ≡ match_real basis symprec s p
  unfolding match_real squares_real
  all_split n = ap (λ l. first_near symprec 0 (map at_offset l)) (take-append-drop n offsets)

  module _ (m : Option Fit) (tried : m ≡ first_near symprec 0 (map at_offset (take 1 offsets))) where
    pub first_fits : (x : Fit) → m ≡ Some x → Some x ≡ match_real basis symprec s p
    first_fits x e = sym e ∙ part_fits symprec at_offset 0 (take 1 offsets) (drop 1 offsets) m tried x e ∙ all_split 1

    module _ (missed : m ≡ None) (r : Option Fit) (inner : NearColumn symprec 1 26 (λ i. square_real basis s p (cell INNER.x INNER.y INNER.z i)) r) where
      among_inner : r ≡ first_near symprec 0 (map at_offset (take 27 offsets))
      among_inner =
          part_misses symprec at_offset 0 (take 1 offsets) (take 26 (drop 1 offsets)) m tried r 1 first_count missed
          (near-inner symprec (square_real basis s p) r inner)
          ∙ ap (λ l. first_near symprec 0 (map at_offset l)) inner_split

      pub inner_fits : (x : Fit) → r ≡ Some x → Some x ≡ match_real basis symprec s p
      inner_fits x e = sym e ∙ part_fits symprec at_offset 0 (take 27 offsets) (drop 27 offsets) r among_inner x e ∙ all_split 27

      pub outer_is :
          r ≡ None → (t : Option Fit) → NearColumn symprec 27 98 (λ i. square_real basis s p (cell OUTER.x OUTER.y OUTER.z i)) t →
          t ≡ match_real basis symprec s p
      outer_is e t outer =
          part_misses symprec at_offset 0 (take 27 offsets) (drop 27 offsets) r among_inner t 27 inner_long e
          (near-outer symprec (square_real basis s p) t outer)
          ∙ all_split 27
