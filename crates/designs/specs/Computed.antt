-- What the definitions compute with, gathered: whoever unfolds `computed` unfolds all of it.
use Rattle.std.specs.Float.Ieee.{of_bits, to_bits, round, size, odd, of_fields, add, sum, mul, div, rem, lt, le, eq, neg, sub, units, span, climb, of_int}
use Rattle.std.specs.Int.Count.{count_trailing_zeros}
use Rattle.definitions.specs.Lists.{any, all, first as first_of, those, count, up_from, each, Some}
use Rattle.definitions.specs.Refusal.{precedence, Applies, NoneOf, upto, Returns}
use Rattle.definitions.specs.Real.{round_away, root_cut, root_pattern, root_of_fields, sqrt, cholesky}
use Rattle.definitions.specs.Job.{job_of}
use Rattle.definitions.specs.Permutation.{is_permutation, inverse_image}
use Rattle.definitions.specs.Transformation.{operation_for, rotation_absent, aligned_to, transformed}
use Rattle.definitions.specs.Symmetrization.{displacements, symmetrized_at, symmetrized, primitive_positions, lattice_fails, symmetrized_basis, primitive_cell_basis, listed_cell_basis}
use Rattle.definitions.specs.Snf.{places, lesser, least, moved, signed, clear_row, clear_column, cleared, box, points}
use Rattle.math_snf_laws.specs.Evaluate.{stage, run}
use Rattle.definitions.specs.Cell.{reduced, listed_positions, listed_points, site_mapping, listed_elements}
use Rattle.definitions.specs.Orbit.{multiplicities, orbit, orbits}
use Rattle.definitions.specs.Coordinates.{is_triplet, print, rows, origin_of, in_range}
use Rattle.definitions.specs.Wyckoff.{offsets, residual, distance, fits_at, match_from, match_of, fits125, AreSpaces, choices, position_fits, candidate_for, site_fits, site_fits_any, orbit_fits, letter_of, orbit_without_fit, letters}
use Rattle.data_wyckoff_laws.specs.Reader.{tokens, token, step, parse}
use Rattle.base_cell.specs.Classes.{replaced, merge, along, along_all, classes}
use Rattle.base_cell.specs.Labels.{place, places as places_of, labels_by}
use Rattle.job_laws.specs.Decode.{decode}

unfoldable pub computed : Unit {0}
unfolding of_bits to_bits round size odd of_fields add sum mul div rem lt le eq neg sub units span climb of_int count_trailing_zeros any all first_of those count up_from each Some precedence Applies NoneOf upto Returns round_away root_cut root_pattern root_of_fields sqrt cholesky job_of is_permutation inverse_image operation_for rotation_absent aligned_to transformed displacements symmetrized_at symmetrized primitive_positions lattice_fails symmetrized_basis primitive_cell_basis listed_cell_basis places lesser least moved signed clear_row clear_column cleared box points stage run reduced listed_positions listed_points site_mapping listed_elements multiplicities orbit orbits is_triplet print rows origin_of in_range offsets residual distance fits_at match_from match_of fits125 AreSpaces choices position_fits candidate_for site_fits site_fits_any orbit_fits letter_of orbit_without_fit letters tokens token step parse replaced merge along along_all classes place places_of labels_by decode
computed = tt
