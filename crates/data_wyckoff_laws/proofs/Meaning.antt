-- The rows of a triplet mean what the triplet says: RowsMeanTheTriplet.
use Rattle.std.specs.Prelude.{ℕ, ◌*◌, ◌/◌, ◌≡◌, ℤ, pos, neg_ℤ, ◌+ℤ◌, ◌*ℤ◌}
use Rattle.std.proofs.Common.{sym, ap, ap₂, ◌∙◌, mul_comm}
use mathlib.Core.List.{List, [], ◌∷◌, map, foldl}
use Rattle.std.proofs.Math.IntN.{zero-*ℤ}
use Rattle.definitions.specs.Matrix.{dot}
use Rattle.definitions.specs.Coordinates.{Axis, Item, Signed, items, coefficient_in, signed_by, item_value, signed_value, RowsMeanTheTriplet}
use Rattle.data_wyckoff_laws.specs.Meaning.{exact_in, add_values, neg_values, only_x, only_y, only_z, no_axis}

-- ---- at one point

module _ (a b c : ℤ) (n : ℕ) where
  abbrev value_of : ℤ → ℤ → ℤ → ℤ → ℤ
  value_of p q r e = pos 2520 *ℤ dot p q r a b c +ℤ pos n *ℤ e

  item_means : (i : Item) →
      item_value a b c n i ≡ value_of (pos (coefficient_in Axis.x i)) (pos (coefficient_in Axis.y i)) (pos (coefficient_in Axis.z i)) (pos (exact_in i))
  item_means (Item.axis Axis.x) = only_x (pos 2520) (pos 1) a b c (pos n)
  item_means (Item.axis Axis.y) = only_y (pos 2520) (pos 1) a b c (pos n)
  item_means (Item.axis Axis.z) = only_z (pos 2520) (pos 1) a b c (pos n)
  item_means (Item.times k Axis.x) = only_x (pos 2520) (pos k) a b c (pos n)
  item_means (Item.times k Axis.y) = only_y (pos 2520) (pos k) a b c (pos n)
  item_means (Item.times k Axis.z) = only_z (pos 2520) (pos k) a b c (pos n)
  item_means (Item.whole k) = ap pos (mul_comm (2520 * k) n) ∙ no_axis (pos 2520) (pos (n * (2520 * k))) a b c
  item_means (Item.fraction k d) = ap pos (mul_comm (2520 / d * k) n) ∙ no_axis (pos 2520) (pos (n * (2520 / d * k))) a b c

  signed_means : (i : Signed) →
      signed_value a b c n i
      ≡ value_of (signed_by (coefficient_in Axis.x) i) (signed_by (coefficient_in Axis.y) i) (signed_by (coefficient_in Axis.z) i) (signed_by exact_in i)
  signed_means (Signed.plus i) = item_means i
  signed_means (Signed.minus i) =
      ap neg_ℤ (item_means i)
      ∙ neg_values a b c (pos 2520) (pos n) (pos (coefficient_in Axis.x i)) (pos (coefficient_in Axis.y i)) (pos (coefficient_in Axis.z i)) (pos (exact_in i))

  sum_means : (l : List Signed) (v p q r e : ℤ) → v ≡ value_of p q r e →
      foldl ◌+ℤ◌ v (map (signed_value a b c n) l)
      ≡ value_of
      (foldl ◌+ℤ◌ p (map (signed_by (coefficient_in Axis.x)) l))
      (foldl ◌+ℤ◌ q (map (signed_by (coefficient_in Axis.y)) l))
      (foldl ◌+ℤ◌ r (map (signed_by (coefficient_in Axis.z)) l))
      (foldl ◌+ℤ◌ e (map (signed_by exact_in) l))
  sum_means [] v p q r e h = h
  sum_means (i ∷ l) v p q r e h =
      sum_means l (v +ℤ signed_value a b c n i) (p +ℤ p') (q +ℤ q') (r +ℤ r') (e +ℤ e')
      (ap₂ ◌+ℤ◌ h (signed_means i) ∙ add_values a b c (pos 2520) (pos n) p q r e p' q' r' e')
    where
      p' : ℤ
      p' = signed_by (coefficient_in Axis.x) i

      q' : ℤ
      q' = signed_by (coefficient_in Axis.y) i

      r' : ℤ
      r' = signed_by (coefficient_in Axis.z) i

      e' : ℤ
      e' = signed_by exact_in i

pub rows-mean_the_triplet : RowsMeanTheTriplet
rows-mean_the_triplet t a b c n =
    sum_means a b c n (items t) (pos 0) (pos 0) (pos 0) (pos 0) (pos 0) (sym (zero-*ℤ a) ∙ only_x (pos 2520) (pos 0) a b c (pos n))
