-- What a check knows of an array parameter, `c.good.0` for the first, gives its shape and the width of its entries.
use Prim.Native.Nat.{ℕ, zero, suc, ◌<◌}
use mathlib.Core.Path.{◌≡◌}
use mathlib.Core.List.{List, [], ◌∷◌}
use native.Mathlib.Omega.{arith}
use native.Mathlib.Nat.{le_of_suc-le-suc}
use lib.ListN.{length, get_or}
use lib.Pow.{pow_pos}
use lib.IntN.{ℤ, pos}
use mir.Syntax.{Width}
use mir.Val.{Val, SFits, hbits}
use denote.RattleType.{RattleType}
use denote.Array.{Array, each}
use denote.Shadow.{shadow}
use denote.Signed.{SInt}
use Rattle.definitions.specs.Matrix.{Matrix, at, item}
use Rattle.math_matrix.specs.Laws.{Three, three_rows}
use Rattle.math_matrix.specs.Bounds.{fits_of}

pub row-length : (R : RattleType) (m : List (List R.Denot)) (us : List Val) → shadow (each (List R.Denot) (Array R 3).own_val m us) → (i : ℕ) → i < length m → length (get_or m i []) ≡ 3
row-length R [] us h i l = absurd (omega arith)
row-length R (r ∷ m) [] h i l = absurd h
row-length R (r ∷ m) (u ∷ us) h zero l = h.0.1.0.1
row-length R (r ∷ m) (u ∷ us) h (suc i) l = row-length R m us h.1 i (le_of_suc-le-suc l)

-- past the end stands 0
items_fit : (w : Width) (r : List ℤ) (us : List Val) → shadow (each ℤ (SInt w).own_val r us) → (j : ℕ) → SFits w (item r j)
items_fit w [] us h j = fits_of w (pos 0) (pow_pos (hbits w))
items_fit w (z ∷ r) [] h j = absurd h
items_fit w (z ∷ r) (u ∷ us) h zero = fits_of w z h.0.1
items_fit w (z ∷ r) (u ∷ us) h (suc j) = items_fit w r us h.1 j

entries_fit : (w : Width) (m : Matrix) (us : List Val) → shadow (each (List ℤ) (Array (SInt w) 3).own_val m us) → (i j : ℕ) → SFits w (at m i j)
entries_fit w [] us h i j = fits_of w (pos 0) (pow_pos (hbits w))
entries_fit w (r ∷ m) [] h i j = absurd h
entries_fit w (r ∷ m) (u ∷ us) h zero j = items_fit w r h.0.0 h.0.1.1 j
entries_fit w (r ∷ m) (u ∷ us) h (suc i) j = entries_fit w m us h.1 i j

pub good_item : (w : Width) (r : List ℤ) {X : List Val → Type 0} → (us : List Val) × ((X us × (length r ≡ 3)) × shadow (each ℤ (SInt w).own_val r us)) → (j : ℕ) → SFits w (item r j)
good_item w r good = items_fit w r good.0 good.1.1

module _ (w : Width) (m : Matrix) {X : List Val → Type 0} (good : (us : List Val) × ((X us × (length m ≡ 3)) × shadow (each (List ℤ) (Array (SInt w) 3).own_val m us))) where
  pub good_three : Three m
  good_three =
      let e = good.1.0.1 in
      three_rows m e (λ i l. row-length (SInt w) m good.0 good.1.1 i (omega arith))

  pub good_entry : (i j : ℕ) → SFits w (at m i j)
  good_entry = entries_fit w m good.0 good.1.1
