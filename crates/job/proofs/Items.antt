-- Lists of what stands at places a fixed width apart.
use Prim.Native.Nat.{ℕ, zero, suc, ◌+◌, ◌*◌, ◌<◌}
use mathlib.Core.Path.{◌≡◌, refl, ap, ◌∙◌}
use mathlib.Core.List.{List, ◌∷◌}
use native.Mathlib.Omega.{arith}
use native.Mathlib.Nat.{not-suc-le-zero, le_of_suc-le-suc}
use lib.ListN.{get_or}
use Rattle.job.specs.Places.{items}

module _ {A : Type 0} (f : ℕ → A) (w : ℕ) where
  pub items_at : (at n i : ℕ) (d : A) → i < n → get_or (items f w at n) i d ≡ f (at + i * w)
  unfolding items
  items_at at zero i d h = absurd (not-suc-le-zero h)
  items_at at (suc n) zero d h = ap f (omega arith)
  items_at at (suc n) (suc i) d h = items_at (at + w) n i d (le_of_suc-le-suc h) ∙ ap f (omega arith)

-- the same places, counted from another one
pub items_from : {A : Type 0} (f : ℕ → A) (w at o n : ℕ) → items (λ p. f (p + o)) w at n ≡ items f w (at + o) n
unfolding items
items_from {A} f w at o zero = refl
items_from {A} f w at o (suc n) =
    let shift : at + w + o ≡ at + o + w = omega arith in
    ap (λ (l : List A). f (at + o) ∷ l) (items_from f w (at + w) o n ∙ ap (λ (p : ℕ). items f w p n) shift)
