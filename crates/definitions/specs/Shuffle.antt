-- Request M-101 of document 02: a permutation made by rules from a seed, "the same list on every machine".
use Rattle.std.specs.Prelude.{ℕ, zero, suc, ◌+◌, ◌-◌, ◌*◌, ◌/◌, ◌%◌, ◌^◌, List, set}
use Rattle.definitions.specs.Lists.{up_to}
use Rattle.definitions.specs.Permutation.{image}

-- ---- the state

abbrev pub multiplier : ℕ
multiplier = 1664525

abbrev pub increment : ℕ
increment = 1013904223

-- "cut to 32 bits"
abbrev pub cut32 : ℕ → ℕ
cut32 x = x % 2 ^ 32

-- "A 32-bit state becomes state × 1,664,525 + 1,013,904,223, both cut to 32 bits": the product and the sum
unfoldable pub step : ℕ → ℕ
step state = cut32 (cut32 (state * multiplier) + increment)

-- "top 16 bits" of the 32
abbrev pub top_bits : ℕ → ℕ
top_bits state = state / 2 ^ 16

-- ---- the list

-- "swap entry i with entry" j
abbrev pub swap : ℕ → ℕ → List ℕ → List ℕ
swap i j l = set (set l i (image l j)) j (image l i)

-- "for i .. down to 1, step the state and swap entry i with entry (top 16 bits) mod (i + 1)": the top bits of the state
-- that was stepped
unfoldable pub swap_down : ℕ → ℕ → List ℕ → List ℕ
swap_down zero state l = l
swap_down (suc i) state l = swap_down i (step state) (swap (suc i) (top_bits (step state) % (suc i + 1)) l)

-- "Starting from 0..n-1, for i from n-1"
unfoldable pub shuffled : ℕ → ℕ → List ℕ
unfolding swap_down
shuffled n seed = swap_down (n - 1) seed (up_to n)
