-- A term's bytes to its sums, byte by byte: what the reader's code computes.
use Rattle.std.specs.Prelude.{ℕ, suc, ◌≤◌, Bool, true, false, cond, List, [], ◌∷◌, leb, eqb, ℤ, pos, neg_ℤ, nat_abs, ◌+ℤ◌, drop, Float, Option, Some, None, option_and_then}
use Rattle.std.proofs.Math.Option as Tokens
use Rattle.std.specs.Float.{binary64}
use Rattle.std.specs.Float.Ieee.{add, div}
use Rattle.definitions.specs.Real.{zero_f, real_of}
use Rattle.definitions.specs.Coordinates.{Axis}
use Rattle.data_wyckoff_laws.specs.Reader.{Token, token}
use Rattle.data_wyckoff.specs.declared.Last.{Last}
use Rattle.data_wyckoff.specs.declared.Last.TheVariants.{Nothing, Sign, Digit, Slash, Ended}
use Rattle.data_wyckoff.specs.declared.Partial.{Partial}
use Rattle.data_wyckoff.specs.declared.Row.{Row}

-- ---- parts of a term

-- the same sums behind something else
abbrev pub behind : Last → Partial → Partial
behind l t = record { last = l; x = t.x; y = t.y; z = t.z; constant = t.constant }

-- no item so far
abbrev pub empty_at : Last → Partial
empty_at l = record { last = l; x = pos 0; y = pos 0; z = pos 0; constant = zero_f }

abbrev pub signed : Bool → ℕ → ℤ
signed minus k = cond minus (neg_ℤ (pos k)) (pos k)

-- the axis of the byte 120, 121 or 122
abbrev pub axis_at : ℕ → Axis
axis_at b = cond (eqb b 120) Axis.x (cond (eqb b 121) Axis.y Axis.z)

-- n times an axis more
abbrev pub plus_axis : Axis → ℤ → Partial → Partial
plus_axis Axis.x n t = record { last = Ended; x = t.x +ℤ n; y = t.y; z = t.z; constant = t.constant }
plus_axis Axis.y n t = record { last = Ended; x = t.x; y = t.y +ℤ n; z = t.z; constant = t.constant }
plus_axis Axis.z n t = record { last = Ended; x = t.x; y = t.y; z = t.z +ℤ n; constant = t.constant }

-- a constant more
abbrev pub plus_constant : Last → Float → Partial → Partial
plus_constant l c t = record { last = l; x = t.x; y = t.y; z = t.z; constant = add binary64 t.constant c }

-- ---- its steps: the sums with a byte more, where a term may go on so

abbrev pub axis_after : Last → Axis → Partial → Option Partial
axis_after Nothing a t = Some (plus_axis a (pos 1) t)
axis_after (Sign minus) a t = Some (plus_axis a (signed minus 1) t)
axis_after (Digit minus n) a t = Some (plus_axis a (signed minus n) t)
axis_after (Slash minus n) a t = None
axis_after Ended a t = None

-- a denominator is not 0
abbrev pub digit_after : Last → ℕ → Partial → Option Partial
digit_after Nothing k t = Some (behind (Digit false k) t)
digit_after (Sign minus) k t = Some (behind (Digit minus k) t)
digit_after (Digit minus n) k t = None
digit_after (Slash minus n) k t =
    cond (eqb k 0) None
    (Some (plus_constant Ended (div binary64 (real_of (signed minus n)) (real_of (pos k))) t))
digit_after Ended k t = None

abbrev pub slash_after : Last → Partial → Option Partial
slash_after Nothing t = None
slash_after (Sign minus) t = None
slash_after (Digit minus n) t = Some (behind (Slash minus n) t)
slash_after (Slash minus n) t = None
slash_after Ended t = None

-- a `+` is not first
abbrev pub sign_after : Last → Bool → Partial → Option Partial
sign_after Nothing minus t = cond minus (Some (behind (Sign true) t)) None
sign_after (Sign m) minus t = None
sign_after (Digit m n) minus t = Some (plus_constant (Sign minus) (real_of (signed m n)) t)
sign_after (Slash m n) minus t = None
sign_after Ended minus t = Some (behind (Sign minus) t)

abbrev pub after_token : Token → Partial → Option Partial
after_token (Token.letter a) t = axis_after t.last a t
after_token (Token.digit k) t = digit_after t.last k t
after_token Token.plus_sign t = sign_after t.last false t
after_token Token.minus_sign t = sign_after t.last true t
after_token Token.slash t = slash_after t.last t
after_token Token.comma t = None

abbrev pub after_any : Tokens.Option Token → Partial → Option Partial
after_any Tokens.none t = None
after_any (Tokens.some c) t = after_token c t

unfoldable pub step_of : Partial → ℕ → Option Partial
unfolding token
step_of t b = after_any (token b) t

-- ---- its end

abbrev pub small : ℤ → Bool
small e = leb (nat_abs e) 31

-- a coefficient, in range
abbrev pub kept : ℤ → Option ℤ
kept e = cond (small e) (Some e) None

-- the row of a term that ends at a place
abbrev pub row_of : Partial → ℕ → Row
row_of t end = record { end = end; x = t.x; y = t.y; z = t.z; constant = t.constant }

abbrev pub end_after : Last → Partial → ℕ → Option Row
end_after Nothing t end = None
end_after (Sign minus) t end = None
end_after (Digit minus n) t end = Some (row_of (plus_constant Ended (real_of (signed minus n)) t) end)
end_after (Slash minus n) t end = None
end_after Ended t end = Some (row_of t end)

abbrev pub end_of : Partial → ℕ → Option Row
end_of t end = end_after t.last t end

-- from the place i on, to the first comma or the end; spaces are dropped
unfoldable pub term_from : ℕ → Partial → List ℕ → Option Row
unfolding step_of
term_from i t [] = end_of t i
term_from i t (b ∷ bs) =
    cond (eqb b 44) (end_of t i)
    (cond (eqb b 32) (term_from (suc i) t bs) (option_and_then (λ u. term_from (suc i) u bs) (step_of t b)))

abbrev pub term_at : List ℕ → ℕ → Option Row
term_at text i = term_from i (empty_at Nothing) (drop i text)

-- ---- how large the sums are

abbrev pub digit_of : Last → ℕ
digit_of Nothing = 0
digit_of (Sign minus) = 0
digit_of (Digit minus n) = n
digit_of (Slash minus n) = n
digit_of Ended = 0

pub record Small (k : ℕ) (t : Partial) : Type 0 where
  pub x : nat_abs t.x ≤ k
  pub y : nat_abs t.y ≤ k
  pub z : nat_abs t.z ≤ k
  pub digit : digit_of t.last ≤ 9
