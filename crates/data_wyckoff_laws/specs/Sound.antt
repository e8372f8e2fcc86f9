-- What the reader takes is a print.
use Rattle.std.specs.Prelude.{ℕ, ◌≡◌, Bool, cond, ltb, eqb}
use Rattle.std.proofs.Math.Path.{refl}
use Rattle.std.proofs.Common.{sym, ap, ◌∙◌, subst, eqb→eq}
use Rattle.std.proofs.Math.Bool.{true, false}
use mathlib.Core.List.{List, [], ◌∷◌, ◌++◌, foldl, append-nil, append_assoc}
use Rattle.std.proofs.Math.Option.{Option, none, some, none-ne-some, some-injective}
use Rattle.std.proofs.Math.Dec.{T}
use Rattle.std.specs.Float.Ieee.Fits.{and_i}
use Rattle.definitions.specs.Lists.{all, each, first}
use Rattle.definitions.specs.Coordinates.{Item, Signed, Term, Triplet, is_item, item_of, items, is_term, is_triplet, print_axis, print_digit, print_item, print_first, print_next, print_term, print}
use Rattle.laws.specs.Lists.{all_head, all_tail, all_cons, all_snoc}
use Rattle.data_wyckoff_laws.specs.Reader.{Token, Lead, State, print_token, tokens, token, close, at_end, on_token, on, step, triplet, finish, parse}

-- ---- a token is one of the listed, and prints as the byte

module _ {A : Type 0} (p q : A → Bool) where
  first_sound : (l : List A) (c : A) → T (all p l) → first q l ≡ some c → T (q c) × T (p c)
  unfolding first
  first_sound [] c h e = absurd (none-ne-some c e)
  first_sound (a ∷ l) c h e = by (q a) refl e (λ e. first_sound l c (all_tail p a l h) e)
    where
      by : (b : Bool) → q a ≡ b → elim b [ true ↦ some a | false ↦ first q l ] ≡ some c → (first q l ≡ some c → T (q c) × T (p c)) → T (q c) × T (p c)
      by true t e ih = let s : a ≡ c = cc in (rw (← s, t) tt, rw (← s) (all_head p a l h))
      by false t e ih = ih e

abbrev pub is_token : Token → Bool
is_token (Token.letter a) = true
is_token (Token.digit n) = ltb n 10
is_token Token.plus_sign = true
is_token Token.minus_sign = true
is_token Token.slash = true
is_token Token.comma = true

pub token_sound : (b : ℕ) (c : Token) → token b ≡ some c → (b ≡ print_token c) × T (is_token c)
unfolding token all
token_sound b c e =
    let s = first_sound is_token (λ c. eqb b (print_token c)) tokens c tt e in
    (eqb→eq b (print_token c) s.0, s.1)

-- ---- what a state has read

each_snoc : {A B : Type 0} (f : A → List B) (l : List A) (a : A) → each f (l ++ (a ∷ [])) ≡ each f l ++ f a
unfolding each
each_snoc f [] a = append-nil (f a)
each_snoc f (b ∷ l) a = rw (each_snoc f l a) (sym (append_assoc (f b) (each f l) (f a)))

abbrev print_terms : List Term → List ℕ
print_terms = each (λ t. print_term t ++ (44 ∷ []))

abbrev print_lead : Lead → List ℕ
print_lead Lead.bare = []
print_lead Lead.dash = 45 ∷ []
print_lead (Lead.add t) = print_term t ++ (43 ∷ [])
print_lead (Lead.sub t) = print_term t ++ (45 ∷ [])

abbrev is_lead : Lead → Bool
is_lead Lead.bare = true
is_lead Lead.dash = true
is_lead (Lead.add t) = is_term t
is_lead (Lead.sub t) = is_term t

-- the terms ts, the lead l and of the next item the bytes u are read
record Open (ts : List Term) (l : Lead) (u r : List ℕ) : Type 0 where
  text : r ≡ print_terms ts ++ (print_lead l ++ u)
  terms : T (all is_term ts)
  lead : T (is_lead l)

-- the terms ts and the term t are read
record Closed (ts : List Term) (t : Term) (r : List ℕ) : Type 0 where
  text : r ≡ print_terms ts ++ print_term t
  terms : T (all is_term ts)
  term : T (is_term t)

abbrev Written : State → List ℕ → Type 0
Written (State.due ts l) r = Open ts l [] r
Written (State.number ts l n) r = Open ts l (print_digit n ∷ []) r × T (ltb n 10)
Written (State.over ts l n) r = Open ts l (print_digit n ∷ 47 ∷ []) r × T (ltb n 10)
Written (State.ended ts t) r = Closed ts t r
Written State.refused r = Unit {0}

one_more : {ts : List Term} {l : Lead} {u r : List ℕ} → Open ts l u r → (b : ℕ) → Open ts l (u ++ (b ∷ [])) (r ++ (b ∷ []))
one_more {ts} {l} {u} o b = record {
  text = rw o.text (simp append_assoc);
  terms = o.terms;
  lead = o.lead;
}

print-next : (t : Term) (i : Signed) → print_term (record { first = t.first; rest = t.rest ++ (i ∷ []) }) ≡ print_term t ++ print_next i
print-next t i = rw (each_snoc print_next t.rest i) (sym (append_assoc (print_first t.first) (each print_next t.rest) (print_next i)))

print-close : (l : Lead) (i : Item) → print_term (close l i) ≡ print_lead l ++ print_item i
unfolding each
print-close Lead.bare i = append-nil (print_item i)
print-close Lead.dash i = ap (λ u. 45 ∷ u) (append-nil (print_item i))
print-close (Lead.add t) i = print-next t (Signed.plus i) ∙ sym (append_assoc (print_term t) (43 ∷ []) (print_item i))
print-close (Lead.sub t) i = print-next t (Signed.minus i) ∙ sym (append_assoc (print_term t) (45 ∷ []) (print_item i))

is_close : (l : Lead) (i : Item) → T (is_lead l) → T (is_item i) → T (is_term (close l i))
is_close Lead.bare i h k = all_cons _ (Signed.plus i) [] k (unfold all in tt)
is_close Lead.dash i h k = all_cons _ (Signed.minus i) [] k (unfold all in tt)
is_close (Lead.add t) i h k = all_snoc (λ j. is_item (item_of j)) (items t) (Signed.plus i) h k
is_close (Lead.sub t) i h k = all_snoc (λ j. is_item (item_of j)) (items t) (Signed.minus i) h k

closed : {ts : List Term} {l : Lead} {r : List ℕ} (i : Item) → Open ts l (print_item i) r → T (is_item i) → Closed ts (close l i) r
closed {ts} {l} i o h = record {
  text = o.text ∙ ap (λ u. print_terms ts ++ u) (sym (print-close l i));
  terms = o.terms;
  term = is_close l i o.lead h;
}

at_end_lem : {A : Type 0} (P : A → Type 0) (d : A) (f : List Term → Term → A) {r : List ℕ} → P d → ((ts : List Term) (t : Term) → Closed ts t r → P (f ts t)) →
    (s : State) → Written s r → P (at_end d f s)
at_end_lem P d f p q (State.due ts l) w = p
at_end_lem P d f p q (State.number ts l n) w = q ts (close l (Item.whole n)) (closed (Item.whole n) w.0 w.1)
at_end_lem P d f p q (State.over ts l n) w = p
at_end_lem P d f p q (State.ended ts t) w = q ts t w
at_end_lem P d f p q State.refused w = p

signed : {ts : List Term} {t : Term} {r : List ℕ} → Closed ts t r → Open ts (Lead.add t) [] (r ++ (43 ∷ [])) × Open ts (Lead.sub t) [] (r ++ (45 ∷ []))
signed {ts} {t} {r} o = (record { text = by 43; terms = o.terms; lead = o.term }, record { text = by 45; terms = o.terms; lead = o.term })
  where
    by : (b : ℕ) → r ++ (b ∷ []) ≡ print_terms ts ++ ((print_term t ++ (b ∷ [])) ++ [])
    by b = rw o.text (simp (append_assoc, append-nil))

parted : {ts : List Term} {t : Term} {r : List ℕ} → Closed ts t r → Open (ts ++ (t ∷ [])) Lead.bare [] (r ++ (44 ∷ []))
parted {ts} {t} o = record {
  text = rw (o.text, each_snoc (λ t. print_term t ++ (44 ∷ [])) ts t) (simp (append_assoc, append-nil));
  terms = all_snoc is_term ts t o.terms o.term;
  lead = tt;
}

keeps : (c : Token) (s : State) (r : List ℕ) → T (is_token c) → Written s r → Written (on_token c s) (r ++ (print_token c ∷ []))
keeps (Token.letter a) (State.due ts l) r h w = closed (Item.axis a) (one_more w (print_axis a)) tt
keeps (Token.letter a) (State.number ts l n) r h w = closed (Item.times n a) (one_more w.0 (print_axis a)) w.1
keeps (Token.letter a) (State.over ts l n) r h w = tt
keeps (Token.letter a) (State.ended ts t) r h w = tt
keeps (Token.letter a) State.refused r h w = tt
keeps (Token.digit k) (State.due ts l) r h w = (one_more w (print_digit k), h)
keeps (Token.digit k) (State.number ts l n) r h w = tt
keeps (Token.digit k) (State.over ts l n) r h w = by (ltb 0 k) refl
  where
    by : (b : Bool) → ltb 0 k ≡ b → Written (cond b (State.ended ts (close l (Item.fraction n k))) State.refused) (r ++ (print_digit k ∷ []))
    by true e = closed (Item.fraction n k) (one_more w.0 (print_digit k)) (and_i (ltb n 10) _ w.1 (and_i (ltb 0 k) _ (rw e tt) h))
    by false e = tt
keeps (Token.digit k) (State.ended ts t) r h w = tt
keeps (Token.digit k) State.refused r h w = tt
keeps Token.plus_sign s r h w = at_end_lem (λ q. Written q (r ++ (43 ∷ []))) State.refused (λ ts t. State.due ts (Lead.add t)) tt (λ ts t o. (signed o).0) s w
keeps Token.minus_sign (State.due ts Lead.bare) r h w = record { text = rw w.text (simp append_assoc); terms = w.terms; lead = tt }
keeps Token.minus_sign (State.due ts Lead.dash) r h w = tt
keeps Token.minus_sign (State.due ts (Lead.add t)) r h w = tt
keeps Token.minus_sign (State.due ts (Lead.sub t)) r h w = tt
keeps Token.minus_sign (State.number ts l n) r h w = (signed (closed (Item.whole n) w.0 w.1)).1
keeps Token.minus_sign (State.over ts l n) r h w = tt
keeps Token.minus_sign (State.ended ts t) r h w = (signed w).1
keeps Token.minus_sign State.refused r h w = tt
keeps Token.slash (State.due ts l) r h w = tt
keeps Token.slash (State.number ts l n) r h w = (one_more w.0 47, w.1)
keeps Token.slash (State.over ts l n) r h w = tt
keeps Token.slash (State.ended ts t) r h w = tt
keeps Token.slash State.refused r h w = tt
keeps Token.comma s r h w = at_end_lem (λ q. Written q (r ++ (44 ∷ []))) State.refused (λ ts t. State.due (ts ++ (t ∷ [])) Lead.bare) tt (λ ts t o. parted o) s w

step_keeps : (s : State) (r : List ℕ) (b : ℕ) → Written s r → Written (step s b) (r ++ (b ∷ []))
unfolding step
step_keeps s r b w = by (token b) refl
  where
    by : (o : Option Token) → token b ≡ o → Written (on o s) (r ++ (b ∷ []))
    by none e = tt
    by (some c) e = let p = token_sound b c e in rw p.0 (keeps c s r p.1 w)

-- ---- at the end

whole_triplet : (ts : List Term) (u : Term) (r : List ℕ) (t : Triplet) → Closed ts u r → triplet (ts ++ (u ∷ [])) ≡ some t → T (is_triplet t) × (r ≡ print t)
unfolding print is_triplet each
whole_triplet [] u r t o e = absurd (none-ne-some t e)
whole_triplet (a ∷ []) u r t o e = absurd (none-ne-some t e)
whole_triplet (a ∷ b ∷ []) u r t o e =
    subst (λ (t : Triplet). T (is_triplet t) × (r ≡ print t)) (some-injective _ t e) (
      and_i (is_term a) _ (all_head is_term a (b ∷ []) o.terms) (and_i (is_term b) _ (all_head is_term b [] (all_tail is_term a (b ∷ []) o.terms)) o.term),
      rw o.text (simp (append_assoc, append-nil)),
    )
whole_triplet (a ∷ b ∷ c ∷ []) u r t o e = absurd (none-ne-some t e)
whole_triplet (a ∷ b ∷ c ∷ d ∷ l) u r t o e = absurd (none-ne-some t e)

read_on : (l : List ℕ) (s : State) (r : List ℕ) (t : Triplet) → Written s r → finish (foldl step s l) ≡ some t → T (is_triplet t) × (r ++ l ≡ print t)
read_on [] s r t w e =
    rw append-nil
    (at_end_lem (λ o. o ≡ some t → T (is_triplet t) × (r ≡ print t)) none (λ ts u. triplet (ts ++ (u ∷ []))) (λ e. absurd (none-ne-some t e)) (λ ts u o. whole_triplet ts u r t o) s w e)
read_on (b ∷ l) s r t w e =
    let h = read_on l (step s b) (r ++ (b ∷ [])) t (step_keeps s r b w) e in
    (h.0, sym (append_assoc r (b ∷ []) l) ∙ h.1)

pub parse_sound : (bs : List ℕ) (t : Triplet) → parse bs ≡ some t → T (is_triplet t) × (bs ≡ print t)
unfolding parse all each
parse_sound bs t e = read_on bs (State.due [] Lead.bare) [] t (record { text = refl; terms = tt; lead = tt }) e
