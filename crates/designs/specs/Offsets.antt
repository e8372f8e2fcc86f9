-- The 125 offsets, computed: "The 27 offsets in -1..1 come first, then the 98 others in -2..2, last coordinate fastest,
-- at places 0 to 124."
use Rattle.std.specs.Prelude.{ℕ, ◌≡◌, refl, Bool, ◌&&◌, List, [], ◌∷◌, length, get_or, take, T, leb, eqb, ℤ, pos, negsuc, nat_abs}
use Rattle.definitions.specs.Lists.{all, count, each, those}
use Rattle.definitions.specs.Matrix.{item}
use Rattle.definitions.specs.Transformation.{same_z}
use Rattle.definitions.specs.Wyckoff.{offsets}

abbrev same : List ℤ → List ℤ → Bool
same o p = same_z (item o 0) (item p 0) && same_z (item o 1) (item p 1) && same_z (item o 2) (item p 2)

abbrev within : ℕ → List ℤ → Bool
within n o = leb (nat_abs (item o 0)) n && leb (nat_abs (item o 1)) n && leb (nat_abs (item o 2)) n

-- 125 offsets, each of -2..2 and each once: so each offset of -2..2 stands at one place
pub one_place-each : (length offsets ≡ 125) × T (all (within 2) offsets) × T (all (λ o. eqb (count (same o) offsets) 1) offsets)
unfolding offsets all count each those
one_place-each = (refl, tt, tt)

-- the first 27 are those of -1..1
pub inner_first : T (all (within 1) (take 27 offsets))
unfolding offsets all each those
inner_first = tt

-- the first, the one at the site itself, the last of the inner ones, the first and the last of the others
pub some_places :
    (get_or offsets 0 [] ≡ negsuc 0 ∷ negsuc 0 ∷ negsuc 0 ∷ [])
    × (get_or offsets 13 [] ≡ pos 0 ∷ pos 0 ∷ pos 0 ∷ [])
    × (get_or offsets 26 [] ≡ pos 1 ∷ pos 1 ∷ pos 1 ∷ [])
    × (get_or offsets 27 [] ≡ negsuc 1 ∷ negsuc 1 ∷ negsuc 1 ∷ [])
    × (get_or offsets 28 [] ≡ negsuc 1 ∷ negsuc 1 ∷ negsuc 0 ∷ [])
    × (get_or offsets 124 [] ≡ pos 2 ∷ pos 2 ∷ pos 2 ∷ [])
unfolding offsets all each those
some_places = (refl, refl, refl, refl, refl, refl)
