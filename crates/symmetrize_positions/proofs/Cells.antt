-- The answer, cell by cell.
use Prim.Native.Nat.{ℕ, zero, suc, ◌-◌, ◌≤◌, ◌<◌}
use mathlib.Core.Path.{◌≡◌, refl, sym, ap, ◌∙◌}
use mathlib.Core.List.{List, [], map}
use native.Mathlib.Omega.{arith}
use lib.ListN.{length, get_or, take, drop, replicate, length-map, take-append-drop}
use lib.Seq.{get_or-take, length-take-le, ext_get_or}
use lib.Ieee.{Float}
use Rattle.definitions.specs.declared.Position.{Position}
use Rattle.definitions.specs.Lists.{up_to}
use Rattle.laws.specs.Lists.{length-up_from, up_to_at, below_up_to, map_at, get_d_default}
use Rattle.definitions.specs.Matrix.{Matrix}
use Rattle.definitions.specs.Real.{origin, sum_p}
use Rattle.definitions.specs.Symmetrization.{symmetrized}
use Rattle.definitions.specs.Calls.{symmetrized_cells}
use Rattle.definitions.specs.Refusal.{padded}
use Rattle.definitions.specs.Lent.{position_from, cells_of, zero_cells}
use Rattle.symmetrize_positions.specs.Targets.{Made, symmetrized_site, total, mean}
use Rattle.symmetrize_positions.proofs.Sums.{all, at_site}
use Rattle.laws.specs.Filling.{cut}

module _ (ps : List Position) (gs : List Matrix) (vs : List (List Float)) (images : List ℕ) where
  pub length-cells : length (symmetrized_cells ps gs vs images) ≡ length ps
  unfolding symmetrized
  length-cells = simp (length-map, length-up_from)

  cell_at : (i : ℕ) → i < length ps → get_or (symmetrized_cells ps gs vs images) i zero_cells ≡ cells_of (symmetrized_site ps gs vs images i)
  unfolding symmetrized
  cell_at i h =
      let site = symmetrized_site ps gs vs images in
      let u = below_up_to (length ps) i h in
      let l : i < length (map site (up_to (length ps))) = omega (arith, length-map (up_to (length ps)) site) in
      map_at cells_of (map site (up_to (length ps))) i origin zero_cells l
      ∙ ap cells_of (map_at site (up_to (length ps)) i 0 origin u ∙ ap site (up_to_at (length ps) i h))

drop-replicate : {A : Type 0} (n m : ℕ) (z : A) → drop n (replicate m z) ≡ replicate (m - n) z
drop-replicate zero m z = let e : m - 0 ≡ m = omega arith in rw e
drop-replicate (suc n) zero z = let e : 0 - suc n ≡ 0 = omega arith in rw e
drop-replicate (suc n) (suc m) z = let e : suc m - suc n ≡ m - n = omega arith in rw e (drop-replicate n m z)

module _ (ps : List (List Float)) (gs : List Matrix) (vs : List (List Float)) (images : List ℕ) (counts : length vs ≡ length gs) where
  abbrev cells : List (List Float)
  cells = symmetrized_cells (map position_from ps) gs vs images

  -- the mean of what a site's sum is to be
  mean_at : (i : ℕ) → i < length ps → mean ps (length gs) i (cells_of (sum_p (all ps gs vs images i))) ≡ get_or cells i zero_cells
  mean_at i h =
      let l : i < length (map position_from ps) = omega (arith, length-map ps position_from) in
      ap cells_of (at_site ps gs vs images i _ _ _ _ _ counts h refl refl refl refl refl) ∙ sym (cell_at (map position_from ps) gs vs images i l)

  -- a cleared list, the sums in its front, their means in their place
  pub filled : (d l₁ l₂ l₃ : List (List Float)) → length ps ≤ length d → length l₃ ≡ length d → l₁ ≡ cut zero_cells 0 d
      → Made (total ps gs vs images) (length ps) l₁ l₂ → Made (mean ps (length gs)) (length ps) l₂ l₃ → l₃ ≡ padded zero_cells cells (length d)
  filled d l₁ l₂ l₃ h e cleared sums means = sym (take-append-drop (length ps) l₃) ∙ rw (front, rest)
    where
      long : length cells ≡ length ps
      long = length-cells (map position_from ps) gs vs images ∙ length-map ps position_from

      front : take (length ps) l₃ ≡ cells
      front = ext_get_or zero_cells (take (length ps) l₃) cells (length-take-le (length ps) l₃ (omega arith) ∙ sym long) (λ i k.
          let a : i < length ps = omega (arith, length-take-le (length ps) l₃ (omega arith)) in
          get_or-take (length ps) l₃ i zero_cells a
          ∙ get_d_default l₃ i zero_cells [] (omega arith)
          ∙ means.front i a
          ∙ ap (mean ps (length gs) i) (sums.front i a)
          ∙ mean_at i a)

      rest : drop (length ps) l₃ ≡ replicate (length d - length cells) zero_cells
      rest =
          let same : length d - 0 - length ps ≡ length d - length cells = omega (arith, long) in
          means.rest ∙ sums.rest ∙ ap (drop (length ps)) cleared ∙ drop-replicate (length ps) (length d - 0) zero_cells ∙ ap (λ k. replicate k zero_cells) same
