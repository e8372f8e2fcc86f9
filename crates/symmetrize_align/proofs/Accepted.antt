-- What the call knows past the first five conditions, and the verdict by 11.
use Prim.Native.Nat.{ℕ, ◌*◌, ◌≤◌}
use mathlib.Core.Path.{◌≡◌, refl}
use mathlib.Core.Bool.{false, ◌||◌}
use mathlib.Core.List.{List}
use lib.ListN.{length}
use borrow.Author.Tests.{ltb-false, eqb-true, not-false}
use Rattle.std.specs.Prelude.{Err, Ok}
use Rattle.definitions.specs.declared.Refusal.TheVariants.{TargetRotation}
use Rattle.definitions.specs.Lent.{bad_permutation_counts, unlike}
use Rattle.definitions.specs.Limits.{most_sites, not_some, too_many_sites}
use Rattle.definitions.specs.Refusal.{Verdict}
use Rattle.laws.specs.Limits.{few}
use Rattle.laws.specs.Tests.{off, so, not_so, neither_left, neither_right}
use Rattle.laws.specs.Verdicts.{HoldsAt, Passed, pass, found_at_lem, found_none, refuse, accept, verdict_of}
use Rattle.symmetrize_align.specs.declared.GivenAlignment.{GivenAlignment}
use Rattle.symmetrize_align.specs.Aligning.{conditions, Known, Aligned, Written}

module _ (g : GivenAlignment) (room : ℕ) where
  abbrev n : ℕ
  n = g.operations.sites

  abbrev k : ℕ
  k = length g.operations.rotations.now

  abbrev images : List ℕ
  images = g.operations.images.now

  abbrev m : ℕ
  m = length g.targets.now

  -- what the test of the counts says: of n sites, k operations and m targets
  module _ (e : (bad_permutation_counts n k images || not_some m) ≡ false) where
    three : bad_permutation_counts n k images ≡ false
    three = neither_left (bad_permutation_counts n k images) (not_some m) e

    two : (too_many_sites n || not_some k) ≡ false
    two = neither_left (too_many_sites n || not_some k) (unlike (length images) (k * n)) three

    known_by : m * n ≤ room → Known g room
    known_by h = record {
      sites = ltb-false most_sites n (neither_left (too_many_sites n) (not_some k) two);
      operations = few k (neither_right (too_many_sites n) (not_some k) two);
      of_images =
          eqb-true (length images) (k * n)
          (not-false _ (neither_right (too_many_sites n || not_some k) (unlike (length images) (k * n)) three));
      of_targets = few m (neither_right (bad_permutation_counts n k images) (not_some m) e);
      of_room = h;
    }

  pub known : Passed (conditions g room) 5 → Known g room
  unfolding Passed
  known p = known_by (off _ p.0) (ltb-false room (m * n) (off _ p.1.1.1.1.0))

-- ---- the verdict

module _ (g : GivenAlignment) (old : List ℕ) where
  -- past the first five conditions, by 11
  pub written_past :
      Passed (conditions g (length old)) 5 → (new : List ℕ) (v : Verdict) → Aligned g old new v → Written g old new v
  unfolding verdict_of found_at_lem found_none HoldsAt
  written_past p new (Ok u) s =
      (known g (length old) p, accept _ (pass (conditions g (length old)) 5 p (not_so s.0)) refl, s.1, s.2)
  written_past p new (Err r) s =
      rw s.0 (refuse (conditions g (length old)) 5 p (so s.1) (Err TargetRotation) refl)
