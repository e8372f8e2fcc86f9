-- What the rules of request M-101 make: each number below n exactly once.
use Rattle.std.specs.Prelude.{ℕ, zero, suc, ◌+◌, ◌-◌, ◌*◌, ◌%◌, ◌^◌, ◌≤◌, ◌<◌, ◌≡◌, List, length}
use Rattle.std.proofs.Common.{arith, mod-lt}
use Rattle.std.proofs.Math.Nat.{mod-add-mod}
use Rattle.definitions.specs.Lists.{up_to}
use Rattle.definitions.specs.Shuffle.{multiplier, increment, step, top_bits, swap, swap_down, shuffled}
use Rattle.base_permutation.specs.Bijection.{Bijection, identity_bijection}
use Rattle.base_permutation.specs.Swap.{swap_bijection}

-- "both cut to 32 bits": that the product is cut before the sum changes nothing
pub cut_once : (state : ℕ) → step state ≡ (state * multiplier + increment) % 2 ^ 32
unfolding step
cut_once state = mod-add-mod (state * multiplier) (2 ^ 32) increment

-- ---- turn by turn

pub mod_below : (x : ℕ) {m n : ℕ} → 0 < m → m ≤ n → x % m < n
mod_below x h k = omega (arith, mod-lt x h)

-- entry i is swapped, and then those below it
pub swap-next :
    (i state : ℕ) (l : List ℕ) {next : ℕ} {m : List ℕ} → 0 < i → next ≡ step state →
    m ≡ swap i (top_bits next % (i + 1)) l → swap_down i state l ≡ swap_down (i - 1) next m
unfolding swap_down
swap-next zero state l h e f = absurd (omega arith)
swap-next (suc i) state l h e f = let less : suc i - 1 ≡ i = omega arith in rw (f, e, less)

-- nothing is left
pub swap_none : (i state : ℕ) (l : List ℕ) → i ≤ 1 → l ≡ swap_down (i - 1) state l
unfolding swap_down
swap_none i state l h = let none : i - 1 ≡ 0 = omega arith in rw none

-- ---- a permutation

-- swaps of entries below n keep a permutation of n sites
pub swaps_permute : (n i state : ℕ) (p : List ℕ) → i < n → Bijection n p → Bijection n (swap_down i state p)
unfolding swap_down
swaps_permute n zero state p h b = b
swaps_permute n (suc i) state p h b =
    let j = top_bits (step state) % (suc i + 1) in
    swaps_permute n i (step state) (swap (suc i) j p) (omega arith)
    (swap_bijection n (suc i) j p h (mod_below (top_bits (step state)) (omega arith) (omega arith)) b)

pub shuffled-permutes : (n seed : ℕ) → Bijection n (shuffled n seed)
unfolding shuffled swap_down
shuffled-permutes zero seed = identity_bijection zero
shuffled-permutes (suc n) seed =
    swaps_permute (suc n) (suc n - 1) seed (up_to (suc n)) (omega arith) (identity_bijection (suc n))

pub length-shuffled : (n seed : ℕ) → length (shuffled n seed) ≡ n
length-shuffled n seed = (shuffled-permutes n seed).size
