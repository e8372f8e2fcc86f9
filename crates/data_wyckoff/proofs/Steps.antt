-- What the scan's step does at each byte, and how far its sums grow.
use Prim.Native.Nat.{ℕ, suc, ◌+◌, ◌-◌, ◌≤◌, ◌<◌}
use mathlib.Core.Path.{◌≡◌, refl, sym, ap, ◌∙◌}
use mathlib.Core.Bool.{Bool, true, false, cond}
use mathlib.Core.List.{List, [], ◌∷◌}
use mathlib.Core.Option as Tokens
use Rattle.std.specs.Prelude.{Option, Some, None, option_and_then}
use native.Mathlib.Omega.{arith}
use lib.Dec.{T, eqb, ltb→lt, lt→ltb}
use lib.IntN.{ℤ, pos, nat_abs}
use lib.Ieee.{Float, binary64, div}
use native.Mathlib.Numerals.{add-one}
use lib.ListN.{length, get_or, drop, length-drop, drop_of_length-le}
use lib.Seq.{drop-cons}
use borrow.Author.Tests.{eqb-true, eqb-false, eq-eqb, ne_eqb}
use Rattle.definitions.specs.Real.{real_of}
use Rattle.definitions.specs.Coordinates.{Axis, print_digit}
use Rattle.math_matrix.specs.Bounds.{abs-add, abs_neg}
use Rattle.data_wyckoff.specs.declared.Row.{Row}
use Rattle.data_wyckoff_laws.specs.Reader.{Token, print_token, token, token_digit}
use Rattle.data_wyckoff_laws.specs.Sound.{is_token, token_sound}
use Rattle.data_wyckoff.specs.declared.Last.{Last}
use Rattle.data_wyckoff.specs.declared.Last.TheVariants.{Nothing, Sign, Digit, Slash, Ended}
use Rattle.data_wyckoff.specs.declared.Partial.{Partial}
use Rattle.data_wyckoff.specs.Scan.{behind, empty_at, signed, axis_at, plus_axis, plus_constant, axis_after, digit_after, slash_after, sign_after, after_token, after_any, step_of, end_after, end_of, term_from, term_at, digit_of, Small}

-- ---- the arms of the code

pub step_plus : (t : Partial) (b : ℕ) → b ≡ 43 → sign_after t.last false t ≡ step_of t b
unfolding step_of
step_plus t b e = rw e

pub step_minus : (t : Partial) (b : ℕ) → b ≡ 45 → sign_after t.last true t ≡ step_of t b
unfolding step_of
step_minus t b e = rw e

pub step_slash : (t : Partial) (b : ℕ) → b ≡ 47 → slash_after t.last t ≡ step_of t b
unfolding step_of
step_slash t b e = rw e

pub step_digit : (t : Partial) (b : ℕ) → 48 ≤ b → b < 58 → digit_after t.last (b - 48) t ≡ step_of t b
unfolding step_of
step_digit t b h g =
    let e : print_digit (b - 48) ≡ b = omega arith in
    let d : token b ≡ Tokens.some (Token.digit (b - 48)) = ap token (sym e) ∙ token_digit (b - 48) (lt→ltb (b - 48) 10 (omega arith)) in
    rw d

pub step_axis : (t : Partial) (b : ℕ) → 120 ≤ b → b < 123 → axis_after t.last (axis_at b) t ≡ step_of t b
unfolding step_of
step_axis t b h g = by (eqb b 120) (eqb b 121) refl refl
  where
    by : (p q : Bool) → eqb b 120 ≡ p → eqb b 121 ≡ q → axis_after t.last (axis_at b) t ≡ step_of t b
    by true q e f = rw (eqb-true b 120 e)
    by false true e f = rw (eqb-true b 121 f)
    by false false e f =
        let z : b ≡ 122 = omega (arith, eqb-false b 120 e, eqb-false b 121 f) in
        rw z

-- every other byte, a space and a comma too
pub step_other : (t : Partial) (b : ℕ) → (b ≡ 43 → ⊥) → (b ≡ 45 → ⊥) → (b ≡ 47 → ⊥) → (48 ≤ b → b < 58 → ⊥) → (120 ≤ b → b < 123 → ⊥) → None ≡ step_of t b
unfolding step_of
step_other t b p m o d a = by (token b) refl
  where
    other : (c : Token) → b ≡ print_token c → T (is_token c) → None ≡ after_token c t
    other (Token.letter Axis.x) e h = absurd (a (omega arith) (omega arith))
    other (Token.letter Axis.y) e h = absurd (a (omega arith) (omega arith))
    other (Token.letter Axis.z) e h = absurd (a (omega arith) (omega arith))
    other (Token.digit n) e h = let l : n < 10 = ltb→lt n 10 h in absurd (d (omega arith) (omega arith))
    other Token.plus_sign e h = absurd (p e)
    other Token.minus_sign e h = absurd (m e)
    other Token.slash e h = absurd (o e)
    other Token.comma e h = refl

    by : (c : Tokens.Option Token) → token b ≡ c → None ≡ after_any c t
    by Tokens.none e = refl
    by (Tokens.some c) e = other c (token_sound b c e).0 (token_sound b c e).1

-- ---- how far the sums grow

abbrev pub SmallIf : ℕ → Option Partial → Type 0
SmallIf k None = Unit {0}
SmallIf k (Some t) = Small k t

module _ (k : ℕ) (t : Partial) (h : Small k t) where
  more_axis : (a : Axis) (n : ℤ) → nat_abs n ≤ 9 → Small (k + 9) (plus_axis a n t)
  more_axis Axis.x n g = record { x = omega (arith, abs-add t.x n, h.x); y = omega (arith, h.y); z = omega (arith, h.z); digit = omega arith }
  more_axis Axis.y n g = record { x = omega (arith, h.x); y = omega (arith, abs-add t.y n, h.y); z = omega (arith, h.z); digit = omega arith }
  more_axis Axis.z n g = record { x = omega (arith, h.x); y = omega (arith, h.y); z = omega (arith, abs-add t.z n, h.z); digit = omega arith }

  more-constant : (l : Last) (c : Float) → digit_of l ≤ 9 → Small (k + 9) (plus_constant l c t)
  more-constant l c g = record { x = omega (arith, h.x); y = omega (arith, h.y); z = omega (arith, h.z); digit = g }

  same_sums : (l : Last) → digit_of l ≤ 9 → Small (k + 9) (behind l t)
  same_sums l g = record { x = omega (arith, h.x); y = omega (arith, h.y); z = omega (arith, h.z); digit = g }

  small_signed : (minus : Bool) (n : ℕ) → n ≤ 9 → nat_abs (signed minus n) ≤ 9
  small_signed true n g = omega (arith, abs_neg (pos n))
  small_signed false n g = g

  after_axis : (l : Last) (a : Axis) → digit_of l ≤ 9 → SmallIf (k + 9) (axis_after l a t)
  after_axis Nothing a g = more_axis a (pos 1) (omega arith)
  after_axis (Sign minus) a g = more_axis a (signed minus 1) (small_signed minus 1 (omega arith))
  after_axis (Digit minus n) a g = more_axis a (signed minus n) (small_signed minus n g)
  after_axis (Slash minus n) a g = tt
  after_axis Ended a g = tt

  after_digit : (l : Last) (d : ℕ) → d ≤ 9 → SmallIf (k + 9) (digit_after l d t)
  after_digit Nothing d g = same_sums (Digit false d) g
  after_digit (Sign minus) d g = same_sums (Digit minus d) g
  after_digit (Digit minus n) d g = tt
  after_digit (Slash minus n) d g = by (eqb d 0)
    where
      by : (b : Bool) → SmallIf (k + 9) (cond b None (Some (plus_constant Ended (div binary64 (real_of (signed minus n)) (real_of (pos d))) t)))
      by true = tt
      by false = more-constant Ended _ (omega arith)
  after_digit Ended d g = tt

  after_slash : (l : Last) → digit_of l ≤ 9 → SmallIf (k + 9) (slash_after l t)
  after_slash Nothing g = tt
  after_slash (Sign minus) g = tt
  after_slash (Digit minus n) g = same_sums (Slash minus n) g
  after_slash (Slash minus n) g = tt
  after_slash Ended g = tt

  after_sign : (l : Last) (minus : Bool) → SmallIf (k + 9) (sign_after l minus t)
  after_sign Nothing true = same_sums (Sign true) (omega arith)
  after_sign Nothing false = tt
  after_sign (Sign m) minus = tt
  after_sign (Digit m n) minus = more-constant (Sign minus) _ (omega arith)
  after_sign (Slash m n) minus = tt
  after_sign Ended minus = same_sums (Sign minus) (omega arith)

  after-token : (c : Token) → T (is_token c) → SmallIf (k + 9) (after_token c t)
  after-token (Token.letter a) g = after_axis t.last a h.digit
  after-token (Token.digit n) g = let l : n < 10 = ltb→lt n 10 g in after_digit t.last n (omega arith)
  after-token Token.plus_sign g = after_sign t.last false
  after-token Token.minus_sign g = after_sign t.last true
  after-token Token.slash g = after_slash t.last h.digit
  after-token Token.comma g = tt

  pub small_step : (b : ℕ) → SmallIf (k + 9) (step_of t b)
  unfolding step_of
  small_step b = by (token b) refl
    where
      by : (c : Tokens.Option Token) → token b ≡ c → SmallIf (k + 9) (after_any c t)
      by Tokens.none e = tt
      by (Tokens.some c) e = after-token c (token_sound b c e).1

pub small_more : (k n : ℕ) (t : Partial) → k ≤ n → Small k t → Small n t
small_more k n t g h = record { x = omega (arith, h.x); y = omega (arith, h.y); z = omega (arith, h.z); digit = h.digit }

-- ---- along the text

abbrev pub Within : ℕ → Option Row → Type 0
Within n None = Unit {0}
Within n (Some r) = r.end ≤ n

end_after_lem : (l : Last) (t : Partial) (j n : ℕ) → j ≤ n → Within n (end_after l t j)
end_after_lem Nothing t j n h = tt
end_after_lem (Sign minus) t j n h = tt
end_after_lem (Digit minus m) t j n h = h
end_after_lem (Slash minus m) t j n h = tt
end_after_lem Ended t j n h = h

end_within : (bs : List ℕ) (i n : ℕ) (t : Partial) → i + length bs ≤ n → Within n (term_from i t bs)
unfolding term_from
end_within [] i n t h = end_after_lem t.last t i n (omega arith)
end_within (b ∷ bs) i n t h = by (eqb b 44) (eqb b 32) (step_of t b) (λ u. end_within bs (suc i) n u (omega arith))
  where
    by : (p q : Bool) (o : Option Partial) → ((u : Partial) → Within n (term_from (suc i) u bs)) →
        Within n (cond p (end_of t i) (cond q (term_from (suc i) t bs) (option_and_then (λ u. term_from (suc i) u bs) o)))
    by true q o rest = end_after_lem t.last t i n (omega arith)
    by false true o rest = rest t
    by false false None rest = tt
    by false false (Some u) rest = rest u

pub term_within : (text : List ℕ) (i : ℕ) → Within (i + length text) (term_at text i)
term_within text i =
    end_within (drop i text) i (i + length text) (empty_at Nothing) (omega (arith, length-drop i text))

module _ (text : List ℕ) (t : Partial) (i : ℕ) where
  pub scan_on : i < length text → (get_or text i 0 ≡ 44 → ⊥) → (get_or text i 0 ≡ 32 → ⊥) →
      term_from i t (drop i text) ≡ option_and_then (λ u. term_from (i + 1) u (drop (i + 1) text)) (step_of t (get_or text i 0))
  unfolding term_from
  scan_on h n m = rw (add-one, drop-cons text i 0, ne_eqb (get_or text i 0) 44 n, ne_eqb (get_or text i 0) 32 m)

  pub scan_comma : i < length text → get_or text i 0 ≡ 44 → term_from i t (drop i text) ≡ end_of t i
  unfolding term_from
  scan_comma h e = rw (drop-cons text i 0, eq-eqb (get_or text i 0) 44 e)

  pub scan_end : length text ≤ i → term_from i t (drop i text) ≡ end_of t i
  unfolding term_from
  scan_end h = rw (drop_of_length-le text h)

  pub scan-space : i < length text → get_or text i 0 ≡ 32 → term_from i t (drop i text) ≡ term_from (i + 1) t (drop (i + 1) text)
  unfolding term_from
  scan-space h e = rw (add-one, drop-cons text i 0, e)
