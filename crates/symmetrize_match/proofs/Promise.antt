-- How the promise of the match of one position with one candidate is kept.
use Prim.Native.Nat.{ℕ}
use mathlib.Core.Path.{◌≡◌, refl}
use mathlib.Core.Bool.{Bool, true, false, not, ◌||◌}
use mathlib.Core.List.{List}
use lib.Ieee.{Float}
use Rattle.std.specs.Prelude.{Option, Err, Ok}
use Rattle.definitions.specs.declared.Fit.{Fit}
use Rattle.definitions.specs.declared.Position.{Position}
use Rattle.definitions.specs.declared.Refusal.{Refusal}
use Rattle.definitions.specs.declared.Refusal.TheVariants.{FloatRange, Coordinates, Diagonalisation}
use Rattle.definitions.specs.Coordinates.{Readable}
use Rattle.definitions.specs.Limits.{lattice_within, position_within, good_symprec}
use Rattle.definitions.specs.Real.{RealMatrix}
use Rattle.definitions.specs.Refusal.{Verdict, Checked, Returns, accepted, refused, number}
use Rattle.definitions.specs.SiteCalls.{match_conditions, MatchPromise, PreparePromise}
use Rattle.definitions.specs.Standardize.{TextLeaves}
use Rattle.definitions.specs.Wyckoff.{Space, IsSpace, match_of}
use Rattle.laws.specs.Tests.{so, not_so}
use Rattle.laws.specs.Verdicts.{HoldsAt, Passed, found_at_lem, found_none, refuse, accept, verdict_of, refused_with_lem, accepted_with}
use Rattle.data_wyckoff.proofs.Listed.{Found, neither, six, eight, found}

-- ---- the promise

module _ (basis : RealMatrix) (p : Position) (text : List ℕ) (symprec : Float) where
  abbrev bad_float : Bool
  bad_float = not (lattice_within basis) || not (position_within p) || not (good_symprec symprec)

  abbrev IsMatch : Option Fit → Type 0
  IsMatch m = (s : Space) × IsSpace text s × (m ≡ match_of basis symprec s p)

  checked_floats : bad_float ≡ true → Checked (match_conditions basis p text symprec) (Err FloatRange)
  unfolding verdict_of found_at_lem Passed HoldsAt
  checked_floats h = refuse (match_conditions basis p text symprec) 0 tt (so h) (Err FloatRange) refl

  pub bad-floats : bad_float ≡ true → MatchPromise basis p text symprec (Err FloatRange)
  bad-floats h = refused_with_lem (match_conditions basis p text symprec) IsMatch FloatRange (checked_floats h)

  module _ (good : bad_float ≡ false) where
    checked_by :
        (v : Verdict) → Found (Readable text → ⊥) (TextLeaves text) v → Checked (match_conditions basis p text symprec) v
    unfolding verdict_of found_at_lem found_none Passed HoldsAt
    checked_by v (neither n l) = accept (match_conditions basis p text symprec) (not_so good, (n, (l, tt))) refl
    checked_by v (six n) = refuse (match_conditions basis p text symprec) 1 (not_so good, tt) n (Err Coordinates) refl
    checked_by v (eight n l) = refuse (match_conditions basis p text symprec) 2 (not_so good, (n, tt)) l (Err Diagonalisation) refl

    pub answered :
        (s : Space) → PreparePromise text (accepted s) → (r : Option Fit) → r ≡ match_of basis symprec s p →
        MatchPromise basis p text symprec (Ok r)
    unfolding Checked Returns
    answered s h r e =
        accepted_with (match_conditions basis p text symprec) IsMatch r (checked_by (Ok tt) (found (Ok tt) (h.0, tt)))
        (s, h.1, e)

    pub not_prepared :
        (k : Refusal) → PreparePromise text (refused (number k)) → MatchPromise basis p text symprec (Err k)
    unfolding Checked Returns
    not_prepared k h =
        refused_with_lem (match_conditions basis p text symprec) IsMatch k (checked_by (Err k) (found (Err k) h))
