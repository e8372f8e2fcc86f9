-- "The listed sites of primitive site i fill a run beginning at i × |det C|": place, position, point, primitive site.
use Rattle.std.specs.Prelude.{ℕ, List, map, replicate, ℤ, Float}
use Rattle.std.specs.Float.{binary64}
use Rattle.std.specs.Float.Ieee.{rem}
use Rattle.definitions.specs.declared.Position.{Position}
use Rattle.definitions.specs.Lists.{each, up_to}
use Rattle.definitions.specs.Matrix.{Matrix, item}
use Rattle.definitions.specs.Real.{one_f, origin, real_of, apply_f, add_p, sub_p, map_p, inverse_of_c}

-- reduction of a coordinate: "% 1, sign kept". Nothing but the position of a copy turns on it.
unfoldable pub reduced : Float → Float
reduced v = rem binary64 v one_f

abbrev pub point_of : List ℤ → Position
point_of f = record { x = real_of (item f 0); y = real_of (item f 1); z = real_of (item f 2) }

-- "position C⁻¹((p + point) - 0) % 1": the copy of a primitive site at p
abbrev pub listed_position : Matrix → Position → List ℤ → Position
listed_position c p f = map_p reduced (apply_f (inverse_of_c c) (sub_p (add_p p (point_of f)) origin))

-- The listed sites of the primitive positions ps, with the points fs, run by run.
unfoldable pub listed_positions : Matrix → List Position → List (List ℤ) → List Position
unfolding each
listed_positions c ps fs = each (λ p. map (listed_position c p) fs) ps

-- "The integer point is returned too": n runs of the points
unfoldable pub listed_points : ℕ → List (List ℤ) → List (List ℤ)
unfolding each
listed_points n fs = each (λ i. fs) (up_to n)

-- each listed site's primitive site: n runs of m
unfoldable pub site_mapping : ℕ → ℕ → List ℕ
unfolding each
site_mapping n m = each (λ i. replicate m i) (up_to n)

-- each listed site's element is its primitive site's: n runs of m
unfoldable pub listed_elements : List ℤ → ℕ → List ℤ
unfolding each
listed_elements es m = each (λ e. replicate m e) es
