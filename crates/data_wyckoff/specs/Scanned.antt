-- The scan against the reader of trees: from byte to byte it has the sums of what the reader has as trees.
use Rattle.std.specs.Prelude.{ℕ, zero, suc, ◌≡◌, Bool, true, false, not, cond, T, ℤ, pos, ◌+ℤ◌, Float, Option, Some, None, option_and_then}
use Rattle.std.proofs.Math.Path.{refl}
use Rattle.std.proofs.Common.{sym, ap, ◌∙◌, arith, lt-ltb, ne_eqb}
use mathlib.Core.List.{List, [], ◌∷◌, ◌++◌, map, foldl-append, map-append}
use Rattle.std.proofs.Math.Option as Tokens
use Rattle.std.proofs.Math.IntN.{+ℤ_idr}
use Rattle.std.specs.Float.{binary64}
use Rattle.std.specs.Float.Ieee.{add, div}
use Rattle.definitions.specs.Real.{zero_f, real_of}
use Rattle.definitions.specs.Coordinates.{Axis, Item, Signed, Term, items, is_axis, coefficient_in, signed_by, sum_z, coefficient, add_constant, constant}
use Rattle.data_wyckoff_laws.specs.Reader.{Token, Lead, State, print_token, token, close, on_token, on, step}
use Rattle.data_wyckoff_laws.specs.Sound.{token_sound}
use Rattle.data_wyckoff.specs.declared.Last.{Last}
use Rattle.data_wyckoff.specs.declared.Last.TheVariants.{Nothing, Sign, Digit, Slash, Ended}
use Rattle.data_wyckoff.specs.declared.Partial.{Partial}
use Rattle.data_wyckoff.specs.Scan.{signed, plus_axis, plus_constant, after_token, after_any, step_of}

-- ---- the sums of trees

abbrev pub is_minus : Lead → Bool
is_minus Lead.bare = false
is_minus Lead.dash = true
is_minus (Lead.add t) = false
is_minus (Lead.sub t) = true

abbrev pub lead_sum : Axis → Lead → ℤ
lead_sum a Lead.bare = pos 0
lead_sum a Lead.dash = pos 0
lead_sum a (Lead.add t) = coefficient a t
lead_sum a (Lead.sub t) = coefficient a t

abbrev pub lead_constant : Lead → Float
lead_constant Lead.bare = zero_f
lead_constant Lead.dash = zero_f
lead_constant (Lead.add t) = constant t
lead_constant (Lead.sub t) = constant t

abbrev pub last_of : Lead → Last
last_of Lead.bare = Nothing
last_of Lead.dash = Sign true
last_of (Lead.add t) = Sign false
last_of (Lead.sub t) = Sign true

abbrev pub lead_of : Last → Lead → Partial
lead_of p l = record { last = p; x = lead_sum Axis.x l; y = lead_sum Axis.y l; z = lead_sum Axis.z l; constant = lead_constant l }

abbrev pub sums_of : Last → Term → Partial
sums_of p t = record { last = p; x = coefficient Axis.x t; y = coefficient Axis.y t; z = coefficient Axis.z t; constant = constant t }

-- what the scan has where the reader has a state: nothing where it has refused
abbrev pub scanned : State → Option Partial
scanned (State.due ts l) = Some (lead_of (last_of l) l)
scanned (State.number ts l n) = Some (lead_of (Digit (is_minus l) n) l)
scanned (State.over ts l n) = Some (lead_of (Slash (is_minus l) n) l)
scanned (State.ended ts t) = Some (sums_of Ended t)
scanned State.refused = None

-- ---- one item more

abbrev signed_item : Bool → Item → Signed
signed_item minus i = cond minus (Signed.minus i) (Signed.plus i)

sum_snoc : (f : Signed → ℤ) (l : List Signed) (i : Signed) → sum_z (map f (l ++ (i ∷ []))) ≡ sum_z (map f l) +ℤ f i
sum_snoc f l i = simp (map-append, foldl-append)

coefficient-close : (a : Axis) (l : Lead) (i : Item) → coefficient a (close l i) ≡ lead_sum a l +ℤ signed (is_minus l) (coefficient_in a i)
coefficient-close a Lead.bare i = refl
coefficient-close a Lead.dash i = refl
coefficient-close a (Lead.add t) i = sum_snoc (signed_by (coefficient_in a)) (items t) (Signed.plus i)
coefficient-close a (Lead.sub t) i = sum_snoc (signed_by (coefficient_in a)) (items t) (Signed.minus i)

constant-close : (l : Lead) (i : Item) → constant (close l i) ≡ add_constant (lead_constant l) (signed_item (is_minus l) i)
constant-close Lead.bare i = refl
constant-close Lead.dash i = refl
constant-close (Lead.add t) i = foldl-append add_constant zero_f (items t) (Signed.plus i ∷ [])
constant-close (Lead.sub t) i = foldl-append add_constant zero_f (items t) (Signed.minus i ∷ [])

-- an item that has none of an axis
none_more : (k : ℤ) (minus : Bool) → k ≡ k +ℤ signed minus 0
none_more k true = sym (+ℤ_idr k)
none_more k false = sym (+ℤ_idr k)

same_sums : (p : Last) {x y z x' y' z' : ℤ} {c c' : Float} → x ≡ x' → y ≡ y' → z ≡ z' → c ≡ c' →
    ◌≡◌ {A = Partial} (record { last = p; x = x; y = y; z = z; constant = c }) (record { last = p; x = x'; y = y'; z = z'; constant = c' })
same_sums p e f g h = λ i. record { last = p; x = e i; y = f i; z = g i; constant = h i }

module _ (l : Lead) (i : Item) where
  -- an item that has n of the axis a, and no constant
  axis_more : (a : Axis) (n : ℕ) (q : Last) → ((b : Axis) → coefficient_in b i ≡ cond (is_axis b a) n 0) → lead_constant l ≡ add_constant (lead_constant l) (signed_item (is_minus l) i) →
      plus_axis a (signed (is_minus l) n) (lead_of q l) ≡ sums_of Ended (close l i)
  axis_more a n q h c = by a h
    where
      minus : Bool
      minus = is_minus l

      here : (b : Axis) → coefficient_in b i ≡ n → lead_sum b l +ℤ signed (is_minus l) n ≡ coefficient b (close l i)
      here b e = rw (coefficient-close b l i, e)

      none_of : (b : Axis) → coefficient_in b i ≡ 0 → lead_sum b l ≡ coefficient b (close l i)
      none_of b e = rw (coefficient-close b l i, e) (none_more (lead_sum b l) (is_minus l))

      by : (a : Axis) → ((b : Axis) → coefficient_in b i ≡ cond (is_axis b a) n 0) → plus_axis a (signed (is_minus l) n) (lead_of q l) ≡ sums_of Ended (close l i)
      by Axis.x h = same_sums Ended (here Axis.x (h Axis.x)) (none_of Axis.y (h Axis.y)) (none_of Axis.z (h Axis.z)) (c ∙ sym (constant-close l i))
      by Axis.y h = same_sums Ended (none_of Axis.x (h Axis.x)) (here Axis.y (h Axis.y)) (none_of Axis.z (h Axis.z)) (c ∙ sym (constant-close l i))
      by Axis.z h = same_sums Ended (none_of Axis.x (h Axis.x)) (none_of Axis.y (h Axis.y)) (here Axis.z (h Axis.z)) (c ∙ sym (constant-close l i))

  -- an item that has no axis
  constant-more : (p q : Last) (c : Float) → ((b : Axis) → coefficient_in b i ≡ 0) → add binary64 (lead_constant l) c ≡ add_constant (lead_constant l) (signed_item (is_minus l) i) →
      plus_constant p c (lead_of q l) ≡ sums_of p (close l i)
  constant-more p q c h e = same_sums p (none_of Axis.x) (none_of Axis.y) (none_of Axis.z) (e ∙ sym (constant-close l i))
    where
      none_of : (b : Axis) → lead_sum b l ≡ coefficient b (close l i)
      none_of b = rw (coefficient-close b l i, h b) (none_more (lead_sum b l) (is_minus l))

module _ (l : Lead) (q : Last) where
  axis_read : (a : Axis) → plus_axis a (signed (is_minus l) 1) (lead_of q l) ≡ sums_of Ended (close l (Item.axis a))
  axis_read a = axis_more l (Item.axis a) a 1 q (λ b. refl) (by (is_minus l))
    where
      by : (minus : Bool) → lead_constant l ≡ add_constant (lead_constant l) (signed_item minus (Item.axis a))
      by true = refl
      by false = refl

  times_read : (n : ℕ) (a : Axis) → plus_axis a (signed (is_minus l) n) (lead_of q l) ≡ sums_of Ended (close l (Item.times n a))
  times_read n a = axis_more l (Item.times n a) a n q (λ b. refl) (by (is_minus l))
    where
      by : (minus : Bool) → lead_constant l ≡ add_constant (lead_constant l) (signed_item minus (Item.times n a))
      by true = refl
      by false = refl

  pub whole_read : (n : ℕ) (p : Last) → plus_constant p (real_of (signed (is_minus l) n)) (lead_of q l) ≡ sums_of p (close l (Item.whole n))
  whole_read n p = constant-more l (Item.whole n) p q (real_of (signed (is_minus l) n)) (λ b. refl) (by (is_minus l))
    where
      by : (minus : Bool) → add binary64 (lead_constant l) (real_of (signed minus n)) ≡ add_constant (lead_constant l) (signed_item minus (Item.whole n))
      by true = refl
      by false = refl

  fraction_read : (n d : ℕ) → plus_constant Ended (div binary64 (real_of (signed (is_minus l) n)) (real_of (pos d))) (lead_of q l) ≡ sums_of Ended (close l (Item.fraction n d))
  fraction_read n d = constant-more l (Item.fraction n d) Ended q (div binary64 (real_of (signed (is_minus l) n)) (real_of (pos d))) (λ b. refl) (by (is_minus l))
    where
      by : (minus : Bool) →
          add binary64 (lead_constant l) (div binary64 (real_of (signed minus n)) (real_of (pos d))) ≡ add_constant (lead_constant l) (signed_item minus (Item.fraction n d))
      by true = refl
      by false = refl

-- ---- one byte more

-- the terms before the last comma are such
abbrev pub Terms : (List Term → Type 0) → State → Type 0
Terms P (State.due ts l) = P ts
Terms P (State.number ts l n) = P ts
Terms P (State.over ts l n) = P ts
Terms P (State.ended ts t) = P ts
Terms P State.refused = Unit {0}

abbrev pub is_comma : Token → Bool
is_comma (Token.letter a) = false
is_comma (Token.digit n) = false
is_comma Token.plus_sign = false
is_comma Token.minus_sign = false
is_comma Token.slash = false
is_comma Token.comma = true

-- the scan follows the reader, and no term is ended
abbrev pub Follows : (List Term → Type 0) → Token → State → Type 0
Follows P c s = (option_and_then (after_token c) (scanned s) ≡ scanned (on_token c s)) × Terms P (on_token c s)

module _ (P : List Term → Type 0) where
  on_letter : (a : Axis) (s : State) → Terms P s → Follows P (Token.letter a) s
  on_letter a (State.due ts Lead.bare) h = (ap Some (axis_read Lead.bare Nothing a), h)
  on_letter a (State.due ts Lead.dash) h = (ap Some (axis_read Lead.dash (Sign true) a), h)
  on_letter a (State.due ts (Lead.add t)) h = (ap Some (axis_read (Lead.add t) (Sign false) a), h)
  on_letter a (State.due ts (Lead.sub t)) h = (ap Some (axis_read (Lead.sub t) (Sign true) a), h)
  on_letter a (State.number ts l n) h = (ap Some (times_read l (Digit (is_minus l) n) n a), h)
  on_letter a (State.over ts l n) h = (refl, tt)
  on_letter a (State.ended ts t) h = (refl, tt)
  on_letter a State.refused h = (refl, tt)

  on_digit : (k : ℕ) (s : State) → Terms P s → Follows P (Token.digit k) s
  on_digit k (State.due ts Lead.bare) h = (refl, h)
  on_digit k (State.due ts Lead.dash) h = (refl, h)
  on_digit k (State.due ts (Lead.add t)) h = (refl, h)
  on_digit k (State.due ts (Lead.sub t)) h = (refl, h)
  on_digit k (State.number ts l n) h = (refl, tt)
  on_digit zero (State.over ts l n) h = (refl, tt)
  on_digit (suc k) (State.over ts l n) h =
      rw (ne_eqb (suc k) 0 (λ e. omega arith), lt-ltb 0 (suc k) (omega arith)) (ap Some (fraction_read l (Slash (is_minus l) n) n (suc k)), h)
  on_digit k (State.ended ts t) h = (refl, tt)
  on_digit k State.refused h = (refl, tt)

  on_plus : (s : State) → Terms P s → Follows P Token.plus_sign s
  on_plus (State.due ts Lead.bare) h = (refl, tt)
  on_plus (State.due ts Lead.dash) h = (refl, tt)
  on_plus (State.due ts (Lead.add t)) h = (refl, tt)
  on_plus (State.due ts (Lead.sub t)) h = (refl, tt)
  on_plus (State.number ts l n) h = (ap Some (whole_read l (Digit (is_minus l) n) n (Sign false)), h)
  on_plus (State.over ts l n) h = (refl, tt)
  on_plus (State.ended ts t) h = (refl, h)
  on_plus State.refused h = (refl, tt)

  on_minus : (s : State) → Terms P s → Follows P Token.minus_sign s
  on_minus (State.due ts Lead.bare) h = (refl, h)
  on_minus (State.due ts Lead.dash) h = (refl, tt)
  on_minus (State.due ts (Lead.add t)) h = (refl, tt)
  on_minus (State.due ts (Lead.sub t)) h = (refl, tt)
  on_minus (State.number ts l n) h = (ap Some (whole_read l (Digit (is_minus l) n) n (Sign true)), h)
  on_minus (State.over ts l n) h = (refl, tt)
  on_minus (State.ended ts t) h = (refl, h)
  on_minus State.refused h = (refl, tt)

  on_slash : (s : State) → Terms P s → Follows P Token.slash s
  on_slash (State.due ts Lead.bare) h = (refl, tt)
  on_slash (State.due ts Lead.dash) h = (refl, tt)
  on_slash (State.due ts (Lead.add t)) h = (refl, tt)
  on_slash (State.due ts (Lead.sub t)) h = (refl, tt)
  on_slash (State.number ts l n) h = (refl, h)
  on_slash (State.over ts l n) h = (refl, tt)
  on_slash (State.ended ts t) h = (refl, tt)
  on_slash State.refused h = (refl, tt)

  pub follows : (c : Token) (s : State) → T (not (is_comma c)) → Terms P s → Follows P c s
  follows (Token.letter a) s n h = on_letter a s h
  follows (Token.digit k) s n h = on_digit k s h
  follows Token.plus_sign s n h = on_plus s h
  follows Token.minus_sign s n h = on_minus s h
  follows Token.slash s n h = on_slash s h
  follows Token.comma s n h = absurd n

  no_comma : (c : Token) → (print_token c ≡ 44 → ⊥) → T (not (is_comma c))
  no_comma (Token.letter a) n = tt
  no_comma (Token.digit k) n = tt
  no_comma Token.plus_sign n = tt
  no_comma Token.minus_sign n = tt
  no_comma Token.slash n = tt
  no_comma Token.comma n = n refl

  none_after : (o : Option Partial) → option_and_then (after_any Tokens.none) o ≡ None
  none_after None = refl
  none_after (Some t) = refl

  pub step_follows : (b : ℕ) (s : State) → (b ≡ 44 → ⊥) → Terms P s → (option_and_then (λ t. step_of t b) (scanned s) ≡ scanned (step s b)) × Terms P (step s b)
  unfolding step_of step
  step_follows b s m h = by (token b) refl
    where
      by : (o : Tokens.Option Token) → token b ≡ o → (option_and_then (after_any o) (scanned s) ≡ scanned (on o s)) × Terms P (on o s)
      by Tokens.none e = (none_after (scanned s), tt)
      by (Tokens.some c) e = follows c s (no_comma c (λ f. m ((token_sound b c e).0 ∙ f))) h
