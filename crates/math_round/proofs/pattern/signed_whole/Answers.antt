-- A whole number up to 2 ^ 53 is exact as a float, and the sign is its highest bit.
use Prim.Native.Nat.{ℕ, ◌+◌, ◌*◌, ◌^◌, ◌≤◌, ◌<◌}
use mathlib.Core.Path.{◌≡◌, sym, ap, ◌∙◌, subst}
use mathlib.Core.Bool.{Bool, false, not}
use native.Mathlib.Omega.{arith}
use mir.Syntax.{w64}
use mir.Val.{to_z}
use mir.ValLaws.{to_z_pos}
use lib.IntN.{pos}
use lib.Dec.{T}
use lib.Ieee.{binary64, of_int, of_bits, to_bits, nan_bits, is_nan, round}
use lib.Ieee.Fits.{round-fits}
use lib.Ieee.Back.{round_whole}
use lib.Ieee.Bits.{of_bits-to_bits, to_bits-lt, nan_bits_is}
use Rattle.std.specs.Int.{from_bool}
use Rattle.math_round.specs.Value.{whole_number, signed_bits}
use Rattle.math_round.proofs.pattern.signed_whole.Goals as goal

-- ---- a number n up to 2 ^ 53 that came through an i64
module _ (n : ℕ) (h : n ≤ 2 ^ 53) where
  same_int : to_z w64 n ≡ pos n
  same_int = to_z_pos w64 n (omega arith)

  as_float : of_int binary64 (to_z w64 n) ≡ round binary64 false n 1
  unfolding of_int
  as_float = ap (of_int binary64) same_int

  number : T (not (is_nan (of_int binary64 (to_z w64 n))))
  number = subst (λ v. T (not (is_nan v))) (sym as_float) (whole_number (round binary64 false n 1) false n (round_whole binary64 false n h))

-- ---- with the sign g, as the number s
module _ (n s : ℕ) (g : Bool) (h : n ≤ 2 ^ 53) (e : s ≡ from_bool g) where
  bits : to_bits binary64 (of_int binary64 (to_z w64 n)) + s * 2 ^ 63 ≡ to_bits binary64 (round binary64 g n 1)
  bits = (λ i. to_bits binary64 (as_float n h i) + e i * 2 ^ 63) ∙ signed_bits n g h

  read : of_bits binary64 (to_bits binary64 (of_int binary64 (to_z w64 n)) + s * 2 ^ 63) ≡ round binary64 g n 1
  read = ap (of_bits binary64) bits ∙ of_bits-to_bits binary64 (round binary64 g n 1) (round-fits binary64 g n 1)

  fits : to_bits binary64 (of_int binary64 (to_z w64 n)) + s * 2 ^ 63 < 2 ^ 64
  fits = subst (λ b. b < 2 ^ 64) (sym bits) (to_bits-lt binary64 (round binary64 g n 1) (round-fits binary64 g n 1))

  number_bits : T (not (nan_bits binary64 (to_bits binary64 (of_int binary64 (to_z w64 n)) + s * 2 ^ 63)))
  number_bits =
      subst (λ b. T (not b)) (sym (nan_bits_is binary64 (to_bits binary64 (of_int binary64 (to_z w64 n)) + s * 2 ^ 63) ∙ ap is_nan read))
      (whole_number (round binary64 g n 1) g n (round_whole binary64 g n h))

-- ---- the goals

pub float_to_bits-result : goal.float_to_bits-result
float_to_bits-result c = number c.args.n c.requires

pub overflow_add-result : goal.overflow_add-result
overflow_add-result c = record { fits = fits c.args.n c.from.result c.args.minus c.requires c.from.ensures }

pub float_from_bits-result : goal.float_from_bits-result
float_from_bits-result c = number_bits c.args.n c.from.result c.args.minus c.requires c.from.ensures

pub returns : goal.returns
returns c = read c.args.n c.from.result c.args.minus c.requires c.from.ensures
