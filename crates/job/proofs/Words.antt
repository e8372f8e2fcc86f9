-- Operands of their own bytes, and byte by byte, are those that stand at their places.
use Prim.Native.Nat.{ℕ, zero, suc, ◌+◌, ◌≤◌}
use mathlib.Core.Path.{◌≡◌, refl, sym, ap, ◌∙◌}
use mathlib.Core.List.{List, ◌∷◌}
use native.Mathlib.Omega.{arith}
use native.Mathlib.Numerals.{add-one}
use lib.ListN.{length, get_or, take, drop}
use lib.Seq.{drop-cons, take_all}
use mir.Syntax.{w8, w16, w32, w64}
use mir.Val.{to_z}
use Rattle.std.specs.Int.{from_le_bytes}
use Rattle.job_laws.specs.Reader.{from_complement}
use Rattle.job.specs.Places.{items, word_at, integer_at}
use Rattle.job.specs.Words.{word8}

pub word1_is : (bs : List ℕ) (at : ℕ) → get_or bs at 0 ≡ word_at 1 bs at
unfolding word_at
word1_is bs at = omega arith

-- ---- little-endian

module _ (bs : List ℕ) where
  pub byte_is : from_le_bytes w8 bs ≡ word_at 1 bs 0
  unfolding word_at
  byte_is = omega arith

  pub half_is : from_le_bytes w16 bs ≡ word_at 2 bs 0
  unfolding word_at
  half_is = omega arith

  pub quarter_is : from_le_bytes w32 bs ≡ word_at 4 bs 0
  unfolding word_at
  quarter_is = omega arith

  pub whole_is : from_le_bytes w64 bs ≡ word_at 8 bs 0
  unfolding word_at
  whole_is = omega arith

  -- in two's complement
  pub signed1_is : to_z w8 (from_le_bytes w8 bs) ≡ integer_at 1 bs 0
  signed1_is = ap (from_complement 1) byte_is

  pub signed4_is : to_z w32 (from_le_bytes w32 bs) ≡ integer_at 4 bs 0
  signed4_is = ap (from_complement 4) quarter_is

-- ---- byte by byte

module _ (bs : List ℕ) (at : ℕ) where
  up₂ : at + 1 + 1 ≡ at + 2
  up₂ = omega arith

  up₃ : at + 2 + 1 ≡ at + 3
  up₃ = omega arith

  up₄ : at + 3 + 1 ≡ at + 4
  up₄ = omega arith

  up₅ : at + 4 + 1 ≡ at + 5
  up₅ = omega arith

  up₆ : at + 5 + 1 ≡ at + 6
  up₆ = omega arith

  up₇ : at + 6 + 1 ≡ at + 7
  up₇ = omega arith

  pub word8_is : word8 bs at ≡ word_at 8 bs at
  unfolding word_at
  word8_is = rw (up₂, up₃, up₄, up₅, up₆, up₇) (omega arith)

-- a text byte by byte
text_from : (bs : List ℕ) (at n : ℕ) → at + n ≤ length bs → take n (drop at bs) ≡ items (word_at 1 bs) 1 at n
unfolding items
text_from bs at zero h = refl
text_from bs at (suc n) h =
    let here : drop at bs ≡ get_or bs at 0 ∷ drop (at + 1) bs =
    drop-cons bs at 0 (omega arith) ∙ ap (λ (k : ℕ). get_or bs at 0 ∷ drop k bs) (sym (add-one at)) in
    ap (take (suc n)) here ∙ (λ i. word1_is bs at i ∷ text_from bs (at + 1) n (omega arith) i)

pub text_is : (bs : List ℕ) (n : ℕ) → length bs ≡ n → bs ≡ items (word_at 1 bs) 1 0 n
text_is bs n h = sym (take_all n bs (omega arith)) ∙ text_from bs 0 n (omega arith)
