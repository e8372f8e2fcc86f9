-- Stores into a list, front to back: what is made below i, and what is as it was from i on.
use Prim.Native.Nat.{ℕ, ◌+◌, ◌≤◌, ◌<◌}
use mathlib.Core.Path.{◌≡◌, ◌∙◌}
use mathlib.Core.List.{List}
use native.Mathlib.Omega.{arith}
use borrow.Author.Count.{below_more}
use lib.ListN.{length, get_or, set}
use lib.Seq.{get_or-set_same, get_or-set_other}
use lib.Ieee.{Float, nan}

module _ (l : List Float) (i : ℕ) (v : Float) where
  pub made : (f : ℕ → Float) → i < length l → ((j : ℕ) → j < i → get_or l j nan ≡ f j) → v ≡ f i → (j : ℕ) → j < i + 1 → get_or (set l i v) j nan ≡ f j
  made f h u e =
      below_more (λ j. get_or (set l i v) j nan ≡ f j) i (λ j k. get_or-set_other l i j v nan (λ q. omega arith) ∙ u j k) (get_or-set_same l i v nan h ∙ e)

  pub left : (d : List Float) → ((j : ℕ) → i ≤ j → get_or l j nan ≡ get_or d j nan) → (j : ℕ) → i + 1 ≤ j → get_or (set l i v) j nan ≡ get_or d j nan
  left d u j k = get_or-set_other l i j v nan (λ q. omega arith) ∙ u j (omega arith)
