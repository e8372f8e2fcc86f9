-- The limits of "Refused by what was given" and "by what the work became", each once, and the test of each.
use Rattle.std.specs.Prelude.{ℕ, ◌*◌, Bool, false, not, ◌&&◌, ◌||◌, leb, ltb, eqb, ℤ, pos, nat_abs, Float}
use Rattle.std.specs.Float.{nan, inf, fin}
use Rattle.std.specs.Float.Ieee.{lt, le}
use Rattle.definitions.specs.declared.Position.{Position}
use Rattle.definitions.specs.Lists.{all}
use Rattle.definitions.specs.Matrix.{Matrix, det}
use Rattle.definitions.specs.Real.{RealMatrix, zero_f, real_of, is_finite}

-- ---- 1 and 2: counts

-- "Job bytes: over 65,536"
abbrev pub most_bytes : ℕ
most_bytes = 65536

-- "primitive sites over 256"; of a permutation made from a seed "every n up to 256"
abbrev pub most_sites : ℕ
most_sites = 256

abbrev pub too_many_sites : ℕ → Bool
too_many_sites n = ltb most_sites n

-- "operations, targets or conventional rotations 0 or over 96", and the permutations of a list: "the list has 1 to 96"
abbrev pub most_operations : ℕ
most_operations = 96

abbrev pub not_some : ℕ → Bool
not_some n = eqb n 0 || ltb most_operations n

-- the images of the most permutations of the most sites
abbrev pub most_images : ℕ
most_images = most_operations * most_sites

-- "candidates over 64"
abbrev pub most_candidates : ℕ
most_candidates = 64

abbrev pub too_many_candidates : ℕ → Bool
too_many_candidates n = ltb most_candidates n

-- "64 bytes coordinates"
abbrev pub text_bytes : ℕ
text_bytes = 64

-- ---- 3: matrix entries

-- "outside -31..31"
abbrev pub entry_limit : ℕ
entry_limit = 31

-- C's own
abbrev pub c_entry_limit : ℕ
c_entry_limit = 31

abbrev pub entries_within : ℕ → Matrix → Bool
entries_within limit = all (all (λ e. leb (nat_abs e) limit))

abbrev pub in_range : Matrix → Bool
in_range = entries_within entry_limit

abbrev pub in_range_of_c : Matrix → Bool
in_range_of_c = entries_within c_entry_limit

-- ---- 4: floats

-- "1,000,000 (lattice)"
abbrev pub lattice_limit : ℕ
lattice_limit = 1000000

-- "1,000 (position, translation, shift)"
abbrev pub position_limit : ℕ
position_limit = 1000

-- "symprec not above 0 or over 1,000"
abbrev pub symprec_limit : ℕ
symprec_limit = 1000

abbrev pub magnitude : Float → Float
magnitude nan = nan
magnitude (inf s) = inf false
magnitude (fin s m e) = fin false m e

-- finite, and of a magnitude not over the limit
abbrev pub within : ℕ → Float → Bool
within limit v = is_finite v && le (magnitude v) (real_of (pos limit))

abbrev pub lattice_within : RealMatrix → Bool
lattice_within = all (all (within lattice_limit))

abbrev pub position_within : Position → Bool
position_within p = within position_limit p.x && within position_limit p.y && within position_limit p.z

abbrev pub good_symprec : Float → Bool
good_symprec s = lt zero_f s && within symprec_limit s

-- ---- 7: determinants

-- "Determinant of T not 1 or -1"
abbrev pub not_unimodular : Matrix → Bool
not_unimodular t = not (eqb (nat_abs (det t)) 1)

-- |det C|: the number of copies of a site
abbrev pub copies : Matrix → ℕ
copies c = nat_abs (det c)

-- "of C zero, or over 64 in magnitude"
abbrev pub most_copies : ℕ
most_copies = 64

abbrev pub bad_copies : Matrix → Bool
bad_copies c = eqb (copies c) 0 || ltb most_copies (copies c)

-- ---- 8 and 9: what the work became

-- "an assigned entry of D, L or R leaves -511..511"
abbrev pub assigned_limit : ℕ
assigned_limit = 511

abbrev pub small : ℤ → Bool
small x = leb (nat_abs x) assigned_limit

-- "Sites × |det C|, or a lent mapping's length, over 1,024"
abbrev pub most_listed : ℕ
most_listed = 1024

abbrev pub too_many_listed : ℕ → Bool
too_many_listed n = ltb most_listed n

-- ---- 10: room

-- "A lent buffer shorter than the answer"
abbrev pub shorter_than : ℕ → ℕ → Bool
shorter_than answer room = ltb room answer
