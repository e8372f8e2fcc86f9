-- The origin of a triplet is the sum of its constants, each rounded once.
use Rattle.std.specs.Prelude.{ℕ, ◌≤◌, ◌≡◌, refl, Bool, T, ℤ, pos, ◌+ℤ◌, length, Float}
use Rattle.std.proofs.Common.{sym, ◌∙◌, le_of_suc-le-suc, not-suc-le-zero}
use Rattle.std.proofs.Math.Path.{ap}
use mathlib.Core.List.{List, [], ◌∷◌, map, foldl, Memᴰ}
use Rattle.std.proofs.Math.IntN.{+ℤ_idl, +ℤ_idr}
use Rattle.std.specs.Float.{binary64}
use Rattle.std.specs.Float.Ieee.{round, add, to_bits, of_bits}
use Rattle.std.specs.Float.Ieee.Fits.{add-fits}
use Rattle.definitions.specs.Lists.{all, up_from, those}
use Rattle.definitions.specs.Real.{zero_f}
use Rattle.definitions.specs.Coordinates.{Item, Signed, items, item_of, is_item, is_constant, constants, signed_by, add_constant, rounded, constant_value, OriginIsTheSum, OriginIsRoundedOnce}
use Rattle.laws.specs.Lists.{all_head, all_tail, all_mem, from_those}
use Rattle.data_wyckoff_laws.specs.Origin.{exact_in, every, at, same, same_is, rounded_fits, constant_is_rounded_once}

-- ---- their sum

abbrev is_one : Signed → Bool
is_one i = is_constant (item_of i)

abbrev exact_sum : ℤ → List Signed → ℤ
exact_sum e l = foldl ◌+ℤ◌ e (map (signed_by exact_in) l)

-- the origin, and the exact sum, of all items are those of the constants among them
abbrev Sums : List Signed → Type 0
Sums l =
    (s v : Float) (e f : ℤ) → s ≡ v → e ≡ f →
    (foldl add_constant s l ≡ foldl (add binary64) v (map constant_value (those is_one l))) × (exact_sum e l ≡ exact_sum f (those is_one l))

module _ (l : List Signed) (rest : Sums l) where
  constant-next : (i : Signed) → T (is_item (item_of i)) → T (is_constant (item_of i)) → (s v : Float) (e f : ℤ) → s ≡ v → e ≡ f →
      (foldl add_constant (add_constant s i) l ≡ foldl (add binary64) (add binary64 v (constant_value i)) (map constant_value (those is_one l)))
      × (exact_sum (e +ℤ signed_by exact_in i) l ≡ exact_sum (f +ℤ signed_by exact_in i) (those is_one l))
  constant-next i h c s v e f p q =
      rest _ _ _ _ (constant_is_rounded_once i h c s ∙ ap (λ u. add binary64 u (constant_value i)) p) (ap (λ g. g +ℤ signed_by exact_in i) q)

  other_next : (s v : Float) (e f : ℤ) → s ≡ v → e ≡ f →
      (foldl add_constant s l ≡ foldl (add binary64) v (map constant_value (those is_one l))) × (exact_sum (e +ℤ pos 0) l ≡ exact_sum f (those is_one l))
  other_next s v e f p q = rest s v (e +ℤ pos 0) f p (+ℤ_idr e ∙ q)

  next : (i : Signed) → T (is_item (item_of i)) → Sums (i ∷ l)
  unfolding those
  next (Signed.plus (Item.axis a)) h = other_next
  next (Signed.plus (Item.times n a)) h = other_next
  next (Signed.plus (Item.whole n)) h = constant-next (Signed.plus (Item.whole n)) h tt
  next (Signed.plus (Item.fraction n d)) h = constant-next (Signed.plus (Item.fraction n d)) h tt
  next (Signed.minus (Item.axis a)) h = other_next
  next (Signed.minus (Item.times n a)) h = other_next
  next (Signed.minus (Item.whole n)) h = constant-next (Signed.minus (Item.whole n)) h tt
  next (Signed.minus (Item.fraction n d)) h = constant-next (Signed.minus (Item.fraction n d)) h tt

sums : (l : List Signed) → T (all (λ i. is_item (item_of i)) l) → Sums l
unfolding those
sums [] h = λ s v e f p q. (p, q)
sums (i ∷ l) h = next l (sums l (all_tail _ i l h)) i (all_head _ i l h)

pub origin_is_the_sum : OriginIsTheSum
unfolding constants
origin_is_the_sum t h = (sums (items t) h zero_f zero_f (pos 0) (pos 0) refl refl).0

-- added to +0 a constant is itself, and its fraction over 2520 rounds to it
abbrev kept : ℤ → ℤ → ℕ → Bool
kept a e d = same (add binary64 zero_f (rounded a d)) (rounded e 2520)

each-kept : T (every kept)
unfolding all up_from add round of_bits to_bits
each-kept = tt

alone : (i : Signed) → T (is_item (item_of i)) → add binary64 zero_f (constant_value i) ≡ rounded (signed_by exact_in i) 2520
alone i h = same_is _ _ (add-fits binary64 _ _) (rounded_fits (signed_by exact_in i) 2520) (at kept each-kept i h)

one_at_most : (l : List Signed) → ((i : Signed) → Memᴰ i l → T (is_item (item_of i))) → length l ≤ 1 →
    foldl (add binary64) zero_f (map constant_value l) ≡ rounded (exact_sum (pos 0) l) 2520
unfolding of_bits round
one_at_most [] h k = refl
one_at_most (i ∷ []) h k = alone i (h i (Memᴰ.head refl)) ∙ ap (λ e. rounded e 2520) (sym (+ℤ_idl (signed_by exact_in i)))
one_at_most (i ∷ j ∷ l) h k = absurd (not-suc-le-zero (le_of_suc-le-suc k))

pub origin_is_rounded_once : OriginIsRoundedOnce
unfolding constants
origin_is_rounded_once t h k =
    let p = sums (items t) h zero_f zero_f (pos 0) (pos 0) refl refl in
    p.0 ∙ one_at_most (constants t) (λ i m. all_mem _ (items t) i h (from_those is_one (items t) i m).0) k ∙ ap (λ e. rounded e 2520) (sym p.1)
