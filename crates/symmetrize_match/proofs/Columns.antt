-- Offsets in columns: from M·y of each to the match.
use Prim.Native.Nat.{ℕ, ◌<◌}
use mathlib.Core.Path.{◌≡◌, refl, sym, ap, ◌∙◌}
use mathlib.Core.Bool.{Bool, true, false, ◌&&◌}
use mathlib.Core.List.{List, []}
use lib.ListN.{get_or, replicate, length-replicate, get_or-replicate}
use lib.Ieee.{Float, nan, eq}
use Rattle.definitions.specs.declared.Position.{Position}
use Rattle.definitions.specs.Real.{RealMatrix, zero_f, origin, apply_f, add_p, sub_p}
use Rattle.laws.specs.Tests.{never}
use Rattle.symmetrize_match.specs.declared.RealSpace.{RealSpace}
use Rattle.symmetrize_match.specs.Match.{zero_diagonal, quotient_real, divided_real, moved_real, residual_real, square, square_real}
use Rattle.symmetrize_match.specs.Match.{Column, Columns, cell, row_times}

pub same-column : {n : ℕ} {f g : ℕ → Float} {l : List Float} → ((i : ℕ) → i < n → f i ≡ g i) → Column n f l → Column n g l
same-column e c = record { long = c.long; each = λ i h. c.each i h ∙ e i h }

-- one number at every place
pub alike : (n : ℕ) (v : Float) → Column n (λ i. v) (replicate n v)
alike n v = record { long = length-replicate n v; each = λ i h. get_or-replicate n i v nan h }

-- columns at a place
pub at_place : (n : ℕ) (f : ℕ → Position) (xs ys zs : List Float) → Columns n f xs ys zs → (i : ℕ) → i < n → cell xs ys zs i ≡ f i
at_place n f xs ys zs c i h = λ t. record { x = c.x.each i h t; y = c.y.each i h t; z = c.z.each i h t }

-- a function of each place's position
pub then : (n : ℕ) (g : Position → Position) (f : ℕ → Position) (xs ys zs ls ms ns : List Float) → Columns n f xs ys zs → Columns n (λ i. g (cell xs ys zs i)) ls ms ns → Columns n (λ i. g (f i)) ls ms ns
then n g f xs ys zs ls ms ns c d =
    record {
      x = same-column (λ i h. ap (λ v. (g v).x) (at_place n f xs ys zs c i h)) d.x;
      y = same-column (λ i h. ap (λ v. (g v).y) (at_place n f xs ys zs c i h)) d.y;
      z = same-column (λ i h. ap (λ v. (g v).z) (at_place n f xs ys zs c i h)) d.z;
    }

each_true : (a b c : Bool) → (a && b && c) ≡ true → (a ≡ true) × (b ≡ true) × (c ≡ true)
each_true true true true e = (refl, refl, refl)
each_true true true false e = absurd (never e)
each_true true false c e = absurd (never e)
each_true false b c e = absurd (never e)

module _ (s : RealSpace) (p : Position) (n : ℕ) (xs ys zs : List Float) where
  -- where D is zero, M·y is one of all offsets
  module _ (z : zero_diagonal s.diagonal ≡ true) where
    fixed_moved : (o : Position) → moved_real s o p ≡ apply_f s.matrix (apply_f s.right origin)
    unfolding moved_real divided_real quotient_real
    fixed_moved o =
        let e = each_true (eq s.diagonal.x zero_f) (eq s.diagonal.y zero_f) (eq s.diagonal.z zero_f) z in
        simp (e.0, e.1, e.2)

    pub fixed :
        (m : Position) (mx my mz : List Float) → m ≡ apply_f s.matrix (apply_f s.right origin) →
        Column n (λ i. m.x) mx → Column n (λ i. m.y) my → Column n (λ i. m.z) mz →
        Columns n (λ i. moved_real s (cell xs ys zs i) p) mx my mz
    fixed m mx my mz e a b c =
        record {
          x = same-column (λ i h. ap (λ v. v.x) (e ∙ sym (fixed_moved (cell xs ys zs i)))) a;
          y = same-column (λ i h. ap (λ v. v.y) (e ∙ sym (fixed_moved (cell xs ys zs i)))) b;
          z = same-column (λ i h. ap (λ v. v.z) (e ∙ sym (fixed_moved (cell xs ys zs i)))) c;
        }

  -- the three rows that are divided, then R, then M
  abbrev row : Float → ℕ → ℕ → Float
  row d k i = quotient_real d (row_times (get_or s.left k []) (sub_p (add_p (cell xs ys zs i) p) s.shift))

  pub moved :
      (ax ay az bx by bz cx cy cz : List Float) →
      Column n (row s.diagonal.x 0) ax → Column n (row s.diagonal.y 1) ay → Column n (row s.diagonal.z 2) az →
      Columns n (λ i. apply_f s.right (cell ax ay az i)) bx by bz →
      Columns n (λ i. apply_f s.matrix (cell bx by bz i)) cx cy cz →
      Columns n (λ i. moved_real s (cell xs ys zs i) p) cx cy cz
  unfolding moved_real divided_real
  moved ax ay az bx by bz cx cy cz a b c r m =
      then n (apply_f s.matrix) (λ i. apply_f s.right (divided_real s (cell xs ys zs i) p)) bx by bz cx cy cz
      (then n (apply_f s.right) (λ i. divided_real s (cell xs ys zs i) p) ax ay az bx by bz (record { x = a; y = b; z = c }) r) m

  -- the squares of the offsets, from M·y of each
  pub squares_of :
      (basis : RealMatrix) (mx my mz l : List Float) →
      Columns n (λ i. moved_real s (cell xs ys zs i) p) mx my mz →
      Column n (λ i. square (apply_f basis (sub_p (sub_p (add_p (cell mx my mz i) s.shift) p) (cell xs ys zs i)))) l →
      Column n (λ i. square_real basis s p (cell xs ys zs i)) l
  unfolding square_real residual_real
  squares_of basis mx my mz l m c =
      same-column (λ i h. ap (λ v. square (apply_f basis (sub_p (sub_p (add_p v s.shift) p) (cell xs ys zs i)))) (at_place n (λ j. moved_real s (cell xs ys zs j) p) mx my mz m i h)) c
