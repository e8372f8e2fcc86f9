-- A pattern above the infinity's is a NaN's.
use Prim.Native.Nat.{ℕ, ◌%◌, ◌<◌}
use mathlib.Core.Path.{◌≡◌, refl, sym, subst, ◌∙◌}
use mathlib.Core.Bool.{Bool, true, not}
use borrow.Author.Tests.{lt-ltb, le-ltb}
use lib.Dec.{T}
use lib.Ieee as Ieee
use lib.Ieee.{Float, nan, binary64, of_bits, is_nan}
use lib.Ieee.Bits.{nan_bits_above, nan_bits_is}
use Rattle.job.proofs.operands.float_of.Goals as goal

is_nan_lem : (x : Float) → is_nan x ≡ true → x ≡ nan
unfolding is_nan
is_nan_lem nan e = refl
is_nan_lem (Ieee.inf s) e = cc
is_nan_lem (Ieee.fin s m k) e = cc

above_nan : (b : ℕ) → 0x7FF0000000000000 < b % 0x8000000000000000 → of_bits binary64 b ≡ nan
above_nan b h = is_nan_lem (of_bits binary64 b) (sym (nan_bits_is binary64 b) ∙ nan_bits_above binary64 b ∙ lt-ltb 0x7FF0000000000000 (b % 0x8000000000000000) h)

pub returns-then-bits-gt9218868437227405312 : goal.returns-then-bits-gt9218868437227405312
unfolding of_bits
returns-then-bits-gt9218868437227405312 c = sym (above_nan c.args.bits c.if-bits-gt9218868437227405312.true)

pub float_from_bits-result : goal.float_from_bits-result
float_from_bits-result c =
    let b = c.args.bits in
    subst (λ (v : Bool). T (not v)) (sym (nan_bits_above binary64 b ∙ le-ltb 0x7FF0000000000000 (b % 0x8000000000000000) c.if-bits-gt9218868437227405312.false)) tt
