-- The scan of three terms is the reader's tree: its rows, its origin and its range; where it finds no term or leaves
-- the range, it has nothing, and no tree in range is read.
use Rattle.std.specs.Prelude.{ℕ, suc, ◌+◌, ◌≤◌, ◌≡◌, Bool, true, false, not, ◌&&◌, T, eqb, ℤ, pos, cond, drop, Float, Option, Some, None, option_and_then}
use Rattle.std.proofs.Math.Path.{refl, ap}
use Rattle.std.proofs.Common.{sym, ◌∙◌, subst, arith, length-append, drop_of_length-le, drop-drop, eqb-true, eq-eqb, ne_eqb}
use mathlib.Core.List.{List, [], ◌∷◌, ◌++◌, foldl}
use Rattle.std.proofs.Math.Option as Tokens
use Rattle.std.proofs.Math.Option.{none, some}
use Rattle.std.proofs.Math.ListN.{length}
use Rattle.std.proofs.Math.Seq.{drop-append-add}
use Rattle.std.proofs.lemmas.Bool.{eqb-false}
use Rattle.definitions.specs.Lists.{all, those}
use Rattle.definitions.specs.Matrix.{Matrix}
use Rattle.definitions.specs.Coordinates.{Axis, Item, Term, Triplet, coefficient, term_row, rows, origin_of, in_range, spaceless, Reads, Readable}
use Rattle.definitions.specs.Lent.{cells_of}
use Rattle.data_wyckoff_laws.specs.Reader.{Token, Lead, State, token, close, at_end, on_token, on, step, triplet, finish, parse}
use Rattle.data_wyckoff_laws.specs.Reading.{parse_reads, unreadable_none, unreadable_range}
use Rattle.data_wyckoff.specs.declared.Last.TheVariants.{Digit, Ended}
use Rattle.data_wyckoff.specs.declared.Partial.{Partial}
use Rattle.data_wyckoff.specs.declared.Row.{Row}
use Rattle.data_wyckoff.specs.Scan.{step_of, small, kept, row_of, end_of, term_from, term_at}
use Rattle.data_wyckoff.specs.Scanned.{is_minus, sums_of, scanned, whole_read, Terms, follows, step_follows}
use Rattle.laws.specs.Lists.{all_three}

-- ---- the end of a term

-- the term that a state has read whole, if it has
abbrev whole_term : State → Tokens.Option Term
whole_term = at_end none (λ ts t. some t)

abbrev row_at : Tokens.Option Term → ℕ → Option Row
row_at none j = None
row_at (some t) j = Some (row_of (sums_of Ended t) j)

abbrev with_term : Tokens.Option Term → (Term → Tokens.Option Triplet) → Tokens.Option Triplet
with_term none f = none
with_term (some t) f = f t

-- what the reader makes of the terms ts and the bytes behind their commas
abbrev after : List Term → List ℕ → Tokens.Option Triplet
after ts bs = finish (foldl step (State.due ts Lead.bare) (spaceless bs))

end_scanned : (s : State) (j : ℕ) → option_and_then (λ t. end_of t j) (scanned s) ≡ row_at (whole_term s) j
end_scanned (State.due ts Lead.bare) j = refl
end_scanned (State.due ts Lead.dash) j = refl
end_scanned (State.due ts (Lead.add t)) j = refl
end_scanned (State.due ts (Lead.sub t)) j = refl
end_scanned (State.number ts l n) j =
    ap (λ p. Some (row_of p j)) (whole_read l (Digit (is_minus l) n) n Ended)
end_scanned (State.over ts l n) j = refl
end_scanned (State.ended ts t) j = refl
end_scanned State.refused j = refl

finish_term : (ts : List Term) (s : State) → Terms (λ us. us ≡ ts) s → finish s ≡ with_term (whole_term s) (λ t. triplet (ts ++ (t ∷ [])))
finish_term ts (State.due us l) e = refl
finish_term ts (State.number us l n) e = rw e
finish_term ts (State.over us l n) e = refl
finish_term ts (State.ended us t) e = rw e
finish_term ts State.refused e = refl

refused_once : (o : Tokens.Option Token) → on o State.refused ≡ State.refused
refused_once none = refl
refused_once (some (Token.letter a)) = refl
refused_once (some (Token.digit n)) = refl
refused_once (some Token.plus_sign) = refl
refused_once (some Token.minus_sign) = refl
refused_once (some Token.slash) = refl
refused_once (some Token.comma) = refl

refused_on : (bs : List ℕ) → foldl step State.refused bs ≡ State.refused
unfolding step
refused_on [] = refl
refused_on (b ∷ bs) = rw (refused_once (token b)) (refused_on bs)

at_comma : (ts : List Term) (s : State) (v : List ℕ) → Terms (λ us. us ≡ ts) s →
    finish (foldl step (step s 44) (spaceless v)) ≡ with_term (whole_term s) (λ t. after (ts ++ (t ∷ [])) v)
unfolding step
at_comma ts (State.due us l) v e = ap finish (refused_on (spaceless v))
at_comma ts (State.number us l n) v e = rw e
at_comma ts (State.over us l n) v e = ap finish (refused_on (spaceless v))
at_comma ts (State.ended us t) v e = rw e
at_comma ts State.refused v e = ap finish (refused_on (spaceless v))

-- ---- a term

-- Of the bytes bs, at the place i of the text, behind what the state s has read: the row of the term that ends at the
-- first comma or at the end, and what the
-- reader makes of the whole.
data Read (ts : List Term) (s : State) (bs : List ℕ) (i : ℕ) (r : Option Row) : Type 0 where
  last : (o : Tokens.Option Term) → r ≡ row_at o (i + length bs) →
      finish (foldl step s (spaceless bs)) ≡ with_term o (λ t. triplet (ts ++ (t ∷ []))) → Read ts s bs i r
  more : (o : Tokens.Option Term) (u v : List ℕ) → bs ≡ u ++ 44 ∷ v → r ≡ row_at o (i + length u) →
      finish (foldl step s (spaceless bs)) ≡ with_term o (λ t. after (ts ++ (t ∷ [])) v) → Read ts s bs i r

module _ (ts : List Term) (s q : State) (b : ℕ) (bs : List ℕ) (i : ℕ) (r : Option Row) where
  one_more : foldl step s (spaceless (b ∷ bs)) ≡ foldl step q (spaceless bs) → Read ts q bs (suc i) r → Read ts s (b ∷ bs) i r
  one_more w (last o e f) =
      let n : suc i + length bs ≡ i + suc (length bs) = omega arith in
      last o (e ∙ ap (row_at o) n) (ap finish w ∙ f)
  one_more w (more o u v e g f) =
      let n : suc i + length u ≡ i + suc (length u) = omega arith in
      more o (b ∷ u) v (ap (λ (l : List ℕ). b ∷ l) e) (g ∙ ap (row_at o) n) (ap finish w ∙ f)

no_space : (b : ℕ) (bs : List ℕ) → eqb b 32 ≡ false → spaceless (b ∷ bs) ≡ b ∷ spaceless bs
unfolding those
no_space b bs f = ap (λ (s : Bool). elim (not s) as (λ (u : Bool). List ℕ) [ true ↦ b ∷ spaceless bs | false ↦ spaceless bs ]) f

-- what the scan has, on to the end of the term
abbrev row_from : ℕ → List ℕ → Option Partial → Option Row
row_from i bs = option_and_then (λ t. term_from i t bs)

row_on : (i b : ℕ) (bs : List ℕ) (o : Option Partial) → eqb b 44 ≡ false → eqb b 32 ≡ false →
    row_from (suc i) bs (option_and_then (λ t. step_of t b) o) ≡ row_from i (b ∷ bs) o
unfolding term_from
row_on i b bs None e f = refl
row_on i b bs (Some t) e f = rw (e, f)

read_on : (bs : List ℕ) (i : ℕ) (ts : List Term) (s : State) → Terms (λ us. us ≡ ts) s → Read ts s bs i (row_from i bs (scanned s))
unfolding term_from those
read_on [] i ts s h = let n : i ≡ i + 0 = omega arith in last (whole_term s) (end_scanned s i ∙ ap (row_at (whole_term s)) n) (finish_term ts s h)
read_on (b ∷ bs) i ts s h = by (eqb b 44) (eqb b 32) refl refl (λ q k. read_on bs (suc i) ts q k)
  where
    by : (p q : Bool) → eqb b 44 ≡ p → eqb b 32 ≡ q → ((q : State) → Terms (λ us. us ≡ ts) q → Read ts q bs (suc i) (row_from (suc i) bs (scanned q))) →
        Read ts s (b ∷ bs) i (row_from i (b ∷ bs) (scanned s))
    by true q e f rest =
        let n : i ≡ i + 0 = omega arith in
        rw (eqb-true b 44 e) (more (whole_term s) [] bs refl (end_scanned s i ∙ ap (row_at (whole_term s)) n) (at_comma ts s bs h))
    by false true e f rest = rw (eqb-true b 32 f) (one_more ts s s 32 bs i _ refl (rest s h))
    by false false e f rest =
        let k : (option_and_then (λ t. step_of t b) (scanned s) ≡ scanned (step s b)) × Terms (λ us. us ≡ ts) (step s b) =
        step_follows (λ us. us ≡ ts) b s (eqb-false b 44 e) h in
        one_more ts s (step s b) b bs i _ (ap (foldl step s) (no_space b bs f))
        (subst (Read ts (step s b) bs (suc i)) (sym (ap (row_from (suc i) bs) k.0) ∙ row_on i b bs (scanned s) e f) (rest (step s b) k.1))

-- ---- three terms and no more

-- with three terms behind commas there is no triplet
three_or_more : (ts : List Term) → 3 ≤ length ts → (t : Term) → triplet (ts ++ (t ∷ [])) ≡ none
three_or_more [] h t = absurd (omega arith)
three_or_more (a ∷ []) h t = absurd (omega arith)
three_or_more (a ∷ b ∷ []) h t = absurd (omega arith)
three_or_more (a ∷ b ∷ c ∷ []) h t = refl
three_or_more (a ∷ b ∷ c ∷ d ∷ l) h t = refl

abbrev Long : List Term → Type 0
Long ts = 3 ≤ length ts

long_snoc : (ts : List Term) (t : Term) → Long ts → Long (ts ++ (t ∷ []))
long_snoc ts t h = omega (arith, length-append ts (t ∷ []))

long_comma : (s : State) → Terms Long s → Terms Long (on_token Token.comma s)
long_comma (State.due ts l) h = tt
long_comma (State.number ts l n) h = long_snoc ts (close l (Item.whole n)) h
long_comma (State.over ts l n) h = tt
long_comma (State.ended ts t) h = long_snoc ts t h
long_comma State.refused h = tt

long_token : (o : Tokens.Option Token) (s : State) → Terms Long s → Terms Long (on o s)
long_token none s h = tt
long_token (some (Token.letter a)) s h = (follows Long (Token.letter a) s tt h).1
long_token (some (Token.digit n)) s h = (follows Long (Token.digit n) s tt h).1
long_token (some Token.plus_sign) s h = (follows Long Token.plus_sign s tt h).1
long_token (some Token.minus_sign) s h = (follows Long Token.minus_sign s tt h).1
long_token (some Token.slash) s h = (follows Long Token.slash s tt h).1
long_token (some Token.comma) s h = long_comma s h

long_end : (s : State) → Terms Long s → finish s ≡ none
long_end (State.due ts l) h = refl
long_end (State.number ts l n) h = three_or_more ts h (close l (Item.whole n))
long_end (State.over ts l n) h = refl
long_end (State.ended ts t) h = three_or_more ts h t
long_end State.refused h = refl

long_on : (bs : List ℕ) (s : State) → Terms Long s → finish (foldl step s bs) ≡ none
unfolding step
long_on [] s h = long_end s h
long_on (b ∷ bs) s h = long_on bs (step s b) (long_token (token b) s h)

-- ---- the answer

-- a row's three coefficients, each in range
abbrev pub entries_of : Row → Option (List ℤ)
entries_of a =
    option_and_then (λ x. option_and_then (λ y. option_and_then (λ z. Some (x ∷ y ∷ z ∷ [])) (kept a.z)) (kept a.y)) (kept a.x)

-- three rows as a matrix and an origin
abbrev pub coordinates_of : Row → Row → Row → Option (Matrix × List Float)
coordinates_of a b c =
    option_and_then (λ p. option_and_then (λ q. option_and_then (λ r. Some (p ∷ q ∷ r ∷ [], a.constant ∷ b.constant ∷ c.constant ∷ []))
    (entries_of c)) (entries_of b)) (entries_of a)

-- the third term ends with the text
abbrev pub with_third : List ℕ → Row → Row → Row → Option (Matrix × List Float)
with_third text a b c = cond (eqb c.end (length text)) (coordinates_of a b c) None

abbrev pub with_second : List ℕ → Row → Row → Option (Matrix × List Float)
with_second text a b = option_and_then (with_third text a b) (term_at text (b.end + 1))

abbrev pub with_first : List ℕ → Row → Option (Matrix × List Float)
with_first text a = option_and_then (with_second text a) (term_at text (a.end + 1))

-- what the code reads of a text
unfoldable pub coordinates_in : List ℕ → Option (Matrix × List Float)
coordinates_in text = option_and_then (with_first text) (term_at text 0)

abbrev cells_in_range : Triplet → Option (Matrix × List Float)
cells_in_range t = cond (in_range t) (Some (rows t, cells_of (origin_of t))) None

data Answer (text : List ℕ) (o : Option (Matrix × List Float)) : Type 0 where
  read : (t : Triplet) → parse (spaceless text) ≡ some t → o ≡ cells_in_range t → Answer text o
  unread : parse (spaceless text) ≡ none → o ≡ None → Answer text o

-- the entries of a term's row
entries_at : (t : Term) (j : ℕ) → entries_of (row_of (sums_of Ended t) j) ≡ cond (all small (term_row t)) (Some (term_row t)) None
entries_at t j =
    let x = coefficient Axis.x t in
    let y = coefficient Axis.y t in
    let z = coefficient Axis.z t in
    by (small x) (small y) (small z) ∙ ap (λ p. cond p (Some (term_row t)) None) (all_three small (pos 0) (term_row t) refl)
  where
    by : (p q r : Bool) →
        option_and_then (λ x. option_and_then (λ y. option_and_then (λ z. Some (x ∷ y ∷ z ∷ []))
        (cond r (Some (coefficient Axis.z t)) None)) (cond q (Some (coefficient Axis.y t)) None)) (cond p (Some (coefficient Axis.x t)) None)
        ≡ cond (p && q && r) (Some (term_row t)) None
    by true true true = refl
    by true true false = refl
    by true false r = refl
    by false q r = refl

abbrev three : Term → Term → Term → Triplet
three t u v = record { first = t; second = u; third = v }

module _ (t u v : Term) (j k n : ℕ) where
  in_rows : coordinates_of (row_of (sums_of Ended t) j) (row_of (sums_of Ended u) k) (row_of (sums_of Ended v) n) ≡ cells_in_range (three t u v)
  unfolding in_range rows origin_of
  in_rows =
      let a = term_row t in
      let b = term_row u in
      let c = term_row v in
      rw (entries_at t j, entries_at u k, entries_at v n)
      (by (all small a) (all small b) (all small c)
      ∙ ap (λ p. cond p (Some (a ∷ b ∷ c ∷ [], cells_of (origin_of (three t u v)))) None) (all_three (all small) [] (a ∷ b ∷ c ∷ []) refl))
    where
      by : (p q r : Bool) →
          option_and_then {U = Matrix × List Float} (λ x. option_and_then {U = Matrix × List Float} (λ y. option_and_then {U = Matrix × List Float} (λ z. Some (x ∷ y ∷ z ∷ [], cells_of (origin_of (three t u v))))
          (cond r (Some (term_row v)) None)) (cond q (Some (term_row u)) None)) (cond p (Some (term_row t)) None)
          ≡ cond (p && q && r) (Some (term_row t ∷ term_row u ∷ term_row v ∷ [], cells_of (origin_of (three t u v)))) None
      by true true true = refl
      by true true false = refl
      by true false r = refl
      by false q r = refl

none_or_none : {f : Term → Tokens.Option Triplet} → ((t : Term) → f t ≡ none) → (o : Tokens.Option Term) → with_term o f ≡ none
none_or_none h none = refl
none_or_none h (some t) = h t

-- a row behind which there is nothing to read
row_or_none :
    (f : Row → Option (Matrix × List Float)) (j : ℕ) → ((t : Term) → f (row_of (sums_of Ended t) j) ≡ None) →
    (o : Tokens.Option Term) → option_and_then f (row_at o j) ≡ None
row_or_none f j h none = refl
row_or_none f j h (some t) = h t

module _ (text : List ℕ) where
  -- the bytes from a place on, and those behind a comma in them
  record Rest (i : ℕ) (bs : List ℕ) : Type 0 where
    is : drop i text ≡ bs
    size : i + length bs ≡ length text

  rest_on : {i : ℕ} {bs : List ℕ} → Rest i bs → (u v : List ℕ) → bs ≡ u ++ 44 ∷ v → Rest (i + length u + 1) v
  rest_on {i} {bs} r u v e = record { is = by; size = omega (arith, r.size, ap length e, length-append u (44 ∷ v)) }
    where
      by : drop (i + length u + 1) text ≡ v
      by =
          let n : i + length u + 1 ≡ i + (length u + 1) = omega arith in
          ap (λ k. drop k text) n
          ∙ sym (drop-drop (length u + 1) i text)
          ∙ ap (drop (length u + 1)) (r.is ∙ e)
          ∙ drop-append-add u (44 ∷ v) 1

  past_end : (i : ℕ) → length text ≤ i → term_at text i ≡ None
  unfolding term_from
  past_end i h = rw (drop_of_length-le text h)

  term_read : {i : ℕ} {bs : List ℕ} → Rest i bs → (ts : List Term) → Read ts (State.due ts Lead.bare) bs i (term_at text i)
  term_read {i} {bs} r ts = rw r.is (read_on bs i ts (State.due ts Lead.bare) refl)

  -- behind two terms
  third : (t u : Term) (j k i : ℕ) (bs : List ℕ) → Rest i bs → (c : Option Row) → parse (spaceless text) ≡ after (t ∷ u ∷ []) bs →
      Read (t ∷ u ∷ []) (State.due (t ∷ u ∷ []) Lead.bare) bs i c →
      Answer text (option_and_then (with_third text (row_of (sums_of Ended t) j) (row_of (sums_of Ended u) k)) c)
  third t u j k i bs r c p (last none e f) = unread (p ∙ f) (rw e)
  third t u j k i bs r c p (last (some v) e f) =
      rw (e, r.size) (read (three t u v) (p ∙ f) (rw (eq-eqb (length text) (length text) refl) (in_rows t u v j k (length text))))
  third t u j k i bs r c p (more o w v e g f) =
      unread (p ∙ f ∙ none_or_none (λ s. long_on (spaceless v) (State.due (t ∷ u ∷ s ∷ []) Lead.bare) (omega arith)) o)
      (rw g (row_or_none _ (i + length w) (λ s. rw short) o))
    where
      short : eqb (i + length w) (length text) ≡ false
      short = ne_eqb (i + length w) (length text) (λ n. omega (arith, r.size, ap length e, length-append w (44 ∷ v)))

  -- behind one term
  second : (t : Term) (j i : ℕ) (bs : List ℕ) → Rest i bs → (b : Option Row) → parse (spaceless text) ≡ after (t ∷ []) bs →
      Read (t ∷ []) (State.due (t ∷ []) Lead.bare) bs i b → Answer text (option_and_then (with_second text (row_of (sums_of Ended t) j)) b)
  second t j i bs r b p (last o e f) =
      unread (p ∙ f ∙ none_or_none (λ s. refl) o)
      (rw e (row_or_none _ (i + length bs) (λ s. rw (past_end (i + length bs + 1) (omega (arith, r.size)))) o))
  second t j i bs r b p (more none u v e g f) = unread (p ∙ f) (rw g)
  second t j i bs r b p (more (some w) u v e g f) =
      let q = rest_on r u v e in
      rw g (third t w j (i + length u) (i + length u + 1) v q (term_at text (i + length u + 1)) (p ∙ f) (term_read q (t ∷ w ∷ [])))

  all-bytes : Rest 0 text
  all-bytes = record { is = refl; size = omega arith }

  first : (a : Option Row) → Read [] (State.due [] Lead.bare) text 0 a → Answer text (option_and_then (with_first text) a)
  unfolding parse
  first a (last o e f) =
      unread (f ∙ none_or_none (λ s. refl) o)
      (rw e (row_or_none _ (0 + length text) (λ s. rw (past_end (0 + length text + 1) (omega arith))) o))
  first a (more none u v e g f) = unread f (rw g)
  first a (more (some w) u v e g f) =
      let q = rest_on all-bytes u v e in
      rw g (second w (0 + length u) (0 + length u + 1) v q (term_at text (0 + length u + 1)) f (term_read q (w ∷ [])))

-- what was read is the rows and the origin of the tree that the text reads as, in range; else there is none
abbrev pub ReadAs : List ℕ → Option (Matrix × List Float) → Type 0
ReadAs text None = Readable text → ⊥
ReadAs text (Some a) = (t : Triplet) × Reads text t × T (in_range t) × (a.0 ≡ rows t) × (a.1 ≡ cells_of (origin_of t))

answered : (text : List ℕ) (o : Option (Matrix × List Float)) → Answer text o → ReadAs text o
answered text o (unread p g) = subst (ReadAs text) (sym g) (unreadable_none text p)
answered text o (read t p g) = subst (ReadAs text) (sym g) (by (in_range t) refl)
  where
    by : (b : Bool) → in_range t ≡ b → ReadAs text (cond b (Some (rows t, cells_of (origin_of t))) None)
    by true e = (t, parse_reads text t p, subst T (sym e) tt, refl, refl)
    by false e = unreadable_range text t p (subst (λ b. T (not b)) (sym e) tt)

pub read_as : (text : List ℕ) → ReadAs text (coordinates_in text)
unfolding coordinates_in
read_as text = answered text (coordinates_in text) (first text (term_at text 0) (term_read text (all-bytes text) []))
