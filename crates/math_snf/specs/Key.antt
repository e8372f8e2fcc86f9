-- The key of a place: keys order as the pivot does, by the magnitude and then in row order.
use Rattle.std.specs.Prelude.{ℕ, zero, suc, ◌+◌, ◌*◌, min, cond, eqb, nat_abs}
use Rattle.definitions.specs.Matrix.{Matrix, at}

-- past the key of every place
abbrev pub no_key : ℕ
no_key = 1000000

-- an entry that is 0 has the key of no place
unfoldable pub key_at : Matrix → ℕ → ℕ → ℕ
key_at m i j = cond (eqb (nat_abs (at m i j)) 0) no_key (16 * nat_abs (at m i j) + 4 * i + j)

-- the least key of a row's last two places, of its three, and of the places with row and column from s on
abbrev pub pair_key : Matrix → ℕ → ℕ
pair_key m i = min (key_at m i 1) (key_at m i 2)

abbrev pub row_key : Matrix → ℕ → ℕ
row_key m i = min (key_at m i 0) (pair_key m i)

unfoldable pub least_key : ℕ → Matrix → ℕ
least_key zero m = min (row_key m 0) (min (row_key m 1) (row_key m 2))
least_key (suc zero) m = min (pair_key m 1) (pair_key m 2)
least_key (suc (suc s)) m = key_at m 2 2
