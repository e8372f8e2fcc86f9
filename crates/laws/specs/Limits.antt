-- Laws of the limits: what a test that passes says, and C's range in that of every matrix.
use Rattle.std.specs.Prelude.{ℕ, ◌*◌, ◌≤◌, ◌≡◌, false, T, eqb, ltb, leb, nat_abs}
use Rattle.std.proofs.Common.{mul-le-mul, le_trans, leb→le, le→leb, lit≤, ltb-false}
use Rattle.definitions.specs.Lists.{all}
use Rattle.definitions.specs.Limits.{not_some, most_operations, most_sites, entry_limit, c_entry_limit, entries_within, in_range, in_range_of_c}
use Rattle.definitions.specs.Matrix.{Matrix}
use Rattle.laws.specs.Tests.{neither_right}
use Rattle.laws.specs.Lists.{all_mono}

-- a count that is not refused
pub few : (n : ℕ) → not_some n ≡ false → n ≤ most_operations
few n e = ltb-false most_operations n (neither_right (eqb n 0) (ltb most_operations n) e)

pub few_entries : (n k : ℕ) → not_some k ≡ false → n ≤ most_sites → k * n ≤ most_operations * most_sites
few_entries n k e h = mul-le-mul (few k e) h

-- a wider range
pub entries_wider : (a b : ℕ) → a ≤ b → (m : Matrix) → T (entries_within a m) → T (entries_within b m)
entries_wider a b h m =
    all_mono (all (λ e. leb (nat_abs e) a)) (all (λ e. leb (nat_abs e) b))
    (λ r. all_mono (λ e. leb (nat_abs e) a) (λ e. leb (nat_abs e) b)
    (λ e t. le→leb (nat_abs e) b (le_trans (leb→le (nat_abs e) a t) h)) r)
    m

-- C's own range is within that of every matrix
pub c_in_range : (c : Matrix) → T (in_range_of_c c) → T (in_range c)
c_in_range = entries_wider c_entry_limit entry_limit (lit≤ tt)
