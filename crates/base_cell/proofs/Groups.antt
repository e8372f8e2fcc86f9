-- From roots that decide what is joined to labels and multiplicities in two lent lists.
use Prim.Native.Nat.{ℕ, ◌≤◌, ◌<◌}
use mathlib.Core.Path.{◌≡◌, ap, ◌∙◌}
use mathlib.Core.List.{List, ◌++◌}
use native.Mathlib.Omega.{arith}
use lib.ListN.{length, take, drop}
use lib.Seq.{take_at}
use Rattle.definitions.specs.Orbit.{Labels, multiplicities}
use Rattle.base_cell.specs.Classes.{Decides}
use Rattle.base_cell.specs.Labels.{labels_by, length-labels_by, labels_by_lem, labels_listed}
use Rattle.base_cell.specs.Grouping.{Below, Grouped}

pub wider : (m n : ℕ) (l : List ℕ) → m ≤ n → Below m l → Below n l
wider m n l h b k g = omega (arith, b k g)

module _ (n : ℕ) (ps : List (List ℕ)) (roots mapping : List ℕ) (decides : Decides n ps roots) (inside : Below n mapping) where
  right : Labels ps mapping (labels_by roots mapping)
  right = labels_by_lem n ps roots decides mapping inside

  -- the labels as numbers of listed sites
  pub labels_below : (m : ℕ) → length mapping ≤ m → Below m (labels_by roots mapping)
  labels_below m h k g =
      let hk : k < length mapping = omega (arith, g, length-labels_by roots mapping) in
      omega (arith, labels_listed right k hk)

  module _ (l₀ l₁ : List ℕ) (written : l₁ ≡ labels_by roots mapping ++ drop (length mapping) l₀) where
    -- what was written is the labels
    pub front : take (length mapping) l₁ ≡ labels_by roots mapping
    front =
        ap (take (length mapping)) written
        ∙ take_at (labels_by roots mapping) (drop (length mapping) l₀) (length mapping) (length-labels_by roots mapping)

    pub grouped :
        (m₀ m₁ : List ℕ) →
        m₁ ≡ multiplicities (take (length mapping) l₁) ++ drop (length (take (length mapping) l₁)) m₀ →
        Grouped ps mapping l₀ m₀ l₁ m₁
    grouped m₀ m₁ e =
        record {
          answer = labels_by roots mapping;
          right = right;
          labels = written;
          multiplicities = e ∙ rw (front, length-labels_by roots mapping);
        }
