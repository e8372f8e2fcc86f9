-- No whole translation is counted twice or missed: of the points L⁻¹f just one differs from it by whole conventional
-- vectors.
use Rattle.std.specs.Prelude.{ℕ, ◌+◌, ◌*◌, ◌/◌, ◌%◌, ◌<◌, ◌≡◌, length, ◌-ℤ◌, ◌*ℤ◌}
use Rattle.std.proofs.Math.Path.{sym, ap}
use Rattle.std.proofs.Common.{◌∙◌, arith}
use mathlib.Core.List.{List, [], ◌∷◌}
use Rattle.std.proofs.Math.ListN.{get_or, length-map}
use Rattle.std.proofs.Math.IntN.{ℤ, pos}
use Rattle.definitions.specs.Lists.{up_to}
use Rattle.definitions.specs.Matrix.{Matrix, item, three, apply, sub_v, inverse}
use Rattle.definitions.specs.Snf.{State, box, points}
use Rattle.definitions.specs.Cell.{listed_points}
use Rattle.definitions.specs.Demand.{ExactlyOne, DifferByWhole, Covers}
use Rattle.definitions.specs.Limits.{copies}
use Rattle.math_matrix.specs.Exprs.{three_eq}
use Rattle.laws.specs.Lists.{below_up_to, map_at, each_at}
use Rattle.base_transformation_laws.specs.Residues.{residue, quotient, residue_below, residue-quotient, residue_unique}
use Rattle.base_transformation_laws.specs.Box.{positive, place_of, length-box, box-place, place_of_below, box_below, box_back, box_at}
use Rattle.base_transformation_laws.specs.Smith.{Smith, factor, volume, d_times, to_diagonal, from_diagonal}

abbrev residues : State → List (List ℤ)
residues t = box (factor t 0) (factor t 1) (factor t 2)

module _ {c : Matrix} {t : State} (s : Smith c t) where
  length-residues : length (residues t) ≡ copies c
  length-residues = length-box (factor t 0) (factor t 1) (factor t 2) ∙ volume s

  pub points-count : length (points t) ≡ copies c
  unfolding points
  points-count = length-map (residues t) (apply (inverse t.l)) ∙ length-residues

  point_at : (k : ℕ) → k < copies c → get_or (points t) k [] ≡ apply (inverse t.l) (get_or (residues t) k [])
  unfolding points
  point_at k h = map_at (apply (inverse t.l)) (residues t) k [] [] (omega (arith, length-residues))

  factor_positive : (0 < factor t 0) × (0 < factor t 1) × (0 < factor t 2)
  factor_positive =
      let h : 0 < factor t 0 * factor t 1 * factor t 2 = omega (arith, volume s, s.regular) in (
        positive (factor t 1) (factor t 2) (factor t 0) 0 (omega arith),
        positive (factor t 0) (factor t 2) (factor t 1) 0 (omega arith),
        positive (factor t 0) (factor t 1) (factor t 2) 0 h,
      )

  module _ (a b e : ℤ) where
    -- Lv modulo the factors, for v = (a, b, e)
    image : ℕ → ℤ
    image i = item (apply t.l (a ∷ b ∷ e ∷ [])) i

    rest : ℕ → ℕ
    rest i = residue (image i) (factor t i)

    times : ℕ → ℤ
    times i = quotient (image i) (factor t i)

    rest_is : (i : ℕ) → 0 < factor t i → image i -ℤ pos (rest i) ≡ pos (factor t i) *ℤ times i
    unfolding rest times
    rest_is i h = residue-quotient (image i) (factor t i) h

    rest_below : (i : ℕ) → 0 < factor t i → rest i < factor t i
    unfolding rest
    rest_below i h = residue_below (image i) (factor t i) h

    rest_unique : (i f : ℕ) (q : ℤ) → 0 < factor t i → f < factor t i → image i -ℤ pos f ≡ pos (factor t i) *ℤ q → f ≡ rest i
    rest_unique i f q n h g = residue_unique (image i) q (times i) f (rest i) (factor t i) h (rest_below i n) g (rest_is i n)

    place : ℕ
    place = place_of (factor t 1) (factor t 2) (rest 0) (rest 1) (rest 2)

    below : place < copies c
    unfolding place
    below =
        let (x, y, z) = factor_positive in
        omega
        (arith, volume s, place_of_below (factor t 0) (factor t 1) (factor t 2) (rest 0) (rest 1) (rest 2) (rest_below 0 x) (rest_below 1 y) (rest_below 2 z))

    point_is : get_or (points t) place [] ≡ apply (inverse t.l) (three (λ i. pos (rest i)))
    unfolding place
    point_is =
        let (x, y, z) = factor_positive in
        point_at place below
        ∙ ap
        (apply (inverse t.l))
        (box-place (factor t 0) (factor t 1) (factor t 2) (rest 0) (rest 1) (rest 2) (rest_below 0 x) (rest_below 1 y) (rest_below 2 z))

    has : DifferByWhole c (a ∷ b ∷ e ∷ []) (get_or (points t) place [])
    unfolding image
    has =
        let (x, y, z) = factor_positive in
        let r : three (λ i. image i -ℤ pos (rest i)) ≡ apply t.d (three times) =
        three_eq (λ i. image i -ℤ pos (rest i)) (λ i. pos (factor t i) *ℤ times i) (rest_is 0 x) (rest_is 1 y) (rest_is 2 z)
        ∙ sym (d_times s (three times)) in
        let w = apply t.r (three times) in
        let g = from_diagonal s (a ∷ b ∷ e ∷ []) (three (λ i. pos (rest i))) (three times) r in
        (item w 0, item w 1, item w 2, ap (sub_v (a ∷ b ∷ e ∷ [])) point_is ∙ g)

    only : (k : ℕ) → k < copies c → DifferByWhole c (a ∷ b ∷ e ∷ []) (get_or (points t) k []) → k ≡ place
    unfolding image place
    only k h (x, y, z, g) =
        let (n₀, n₁, n₂) = factor_positive in
        let o : k < factor t 0 * factor t 1 * factor t 2 = omega (arith, volume s) in
        let (h₀, h₁, h₂) = box_below (factor t 0) (factor t 1) (factor t 2) k o in
        let f₀ = k / (factor t 1 * factor t 2) in
        let f₁ = k / factor t 2 % factor t 1 in
        let f₂ = k % factor t 2 in
        let f : List ℤ = pos f₀ ∷ pos f₁ ∷ pos f₂ ∷ [] in
        let p : get_or (points t) k [] ≡ apply (inverse t.l) f =
        point_at k h ∙ ap (apply (inverse t.l)) (box_at (factor t 0) (factor t 1) (factor t 2) k o) in
        let q = apply (inverse t.r) (x ∷ y ∷ z ∷ []) in
        let r : sub_v (apply t.l (a ∷ b ∷ e ∷ [])) f ≡ three (λ i. pos (factor t i) *ℤ item q i) =
        to_diagonal s (a ∷ b ∷ e ∷ []) f (x ∷ y ∷ z ∷ []) (ap (sub_v (a ∷ b ∷ e ∷ [])) (sym p) ∙ g) ∙ d_times s q in
        let e₀ = rest_unique 0 f₀ (item q 0) n₀ h₀ (ap (λ v. item v 0) r) in
        let e₁ = rest_unique 1 f₁ (item q 1) n₁ h₁ (ap (λ v. item v 1) r) in
        let e₂ = rest_unique 2 f₂ (item q 2) n₂ h₂ (ap (λ v. item v 2) r) in
        box_back (factor t 0) (factor t 1) (factor t 2) k ∙ (λ i. place_of (factor t 1) (factor t 2) (e₀ i) (e₁ i) (e₂ i))

  pub point_covers : (a b e : ℤ) → ExactlyOne (copies c) (λ k. DifferByWhole c (a ∷ b ∷ e ∷ []) (get_or (points t) k []))
  point_covers a b e = record { place = place a b e; below = below a b e; has = has a b e; only = only a b e }

  run_at : (n i k : ℕ) → i < n → k < copies c → get_or (listed_points n (points t)) (i * copies c + k) [] ≡ get_or (points t) k []
  unfolding listed_points
  run_at n i k h g = each_at (λ j. points t) (copies c) (λ j. points-count) (up_to n) i k 0 [] (below_up_to n i h) g

  -- the answer's list: n runs of the points
  pub covers : (n : ℕ) → Covers c n (listed_points n (points t))
  covers n i h a b e =
      let p = point_covers a b e in
      record {
        place = p.place;
        below = p.below;
        has = rw (run_at n i p.place h p.below) p.has;
        only = λ k g w. p.only k g (rw (run_at n i k h g) at w);
      }
