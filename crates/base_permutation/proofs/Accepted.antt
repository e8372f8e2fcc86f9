-- What an accepted call knows of its arguments: the conditions that it is past, as facts.
use Prim.Native.Nat.{ℕ, ◌≤◌}
use mathlib.Core.Path.{◌≡◌}
use mathlib.Core.Bool.{true}
use mathlib.Core.List.{List}
use lib.ListN.{length}
use borrow.Author.Tests.{ltb-false, eqb-true, not-false}
use Rattle.std.specs.Prelude.{Ok}
use Rattle.definitions.specs.Calls.{identity_conditions, inverse_conditions, product_conditions, bad_permutation}
use Rattle.definitions.specs.Permutation.{is_permutation}
use Rattle.definitions.specs.Refusal.{Checked}
use Rattle.definitions.specs.Limits.{too_many_sites}
use Rattle.laws.specs.Order.{numbered, FailAll, past}
use Rattle.laws.specs.Tests.{off, neither_left, neither_right}

pub identity_facts : (n room : ℕ) → Checked (identity_conditions n room) (Ok tt) → (n ≤ 256) × (n ≤ room)
unfolding numbered FailAll
identity_facts n room e =
    let fails = past (identity_conditions n room) tt e in
    (ltb-false _ _ (off _ fails.0), ltb-false _ _ (off _ fails.1.0))

pub inverse_facts : (p : List ℕ) (room : ℕ) → Checked (inverse_conditions p room) (Ok tt) → (length p ≤ 256) × (is_permutation (length p) p ≡ true) × (length p ≤ room)
unfolding numbered FailAll
inverse_facts p room e =
    let fails = past (inverse_conditions p room) tt e in
    (ltb-false _ _ (off _ fails.0), not-false _ (off _ fails.1.0), ltb-false _ _ (off _ fails.1.1.0))

pub product_facts : (p q : List ℕ) (room : ℕ) → Checked (product_conditions p q room) (Ok tt)
    → (length q ≡ length p) × (is_permutation (length p) p ≡ true) × (is_permutation (length q) q ≡ true) × (length q ≤ room)
unfolding numbered FailAll
product_facts p q room e =
    let fails = past (product_conditions p q room) tt e in
    let like : length q ≡ length p = eqb-true _ _ (not-false _ (neither_right (too_many_sites (length p)) _ (off _ fails.0))) in (
      like,
      not-false _ (neither_left _ (bad_permutation q) (off _ fails.1.0)),
      not-false _ (neither_right (bad_permutation p) _ (off _ fails.1.0)),
      rw like (ltb-false _ _ (off _ fails.1.1.0)),
    )
