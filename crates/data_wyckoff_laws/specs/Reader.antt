-- A reader of triplets, byte by byte: no definition, but a means to compute what Reads says.
use Rattle.std.specs.Prelude.{ℕ, zero, suc, ◌<◌, ◌≡◌, refl, cond, T, ltb, eqb}
use Rattle.std.proofs.Common.{sym, ap, ◌∙◌, subst, ltb→lt, arith}
use mathlib.Core.List.{List, [], ◌∷◌, ◌++◌, foldl, foldl-append, append-nil, append_assoc}
use Rattle.std.proofs.Math.Option.{Option, none, some}
use Rattle.std.specs.Float.Ieee.Fits.{and_l, and_r}
use Rattle.std.proofs.Math.Decide.{ℕ_discrete}
use Rattle.laws.specs.Lists.{all_head, all_tail}
use Rattle.definitions.specs.Lists.{all, each, first}
use Rattle.definitions.specs.Coordinates.{Axis, Item, Signed, Term, Triplet, is_item, item_of, is_term, is_triplet, print_axis, print_digit, print_item, print_first, print_next, print_term, print}
use Rattle.laws.specs.Tests.{true_of}

-- ---- its steps

pub data Token : Type 0 where
  letter : Axis → Token
  digit : ℕ → Token
  plus_sign minus_sign slash comma : Token

abbrev pub print_token : Token → ℕ
print_token (letter a) = print_axis a
print_token (digit n) = print_digit n
print_token plus_sign = 43
print_token minus_sign = 45
print_token slash = 47
print_token comma = 44

unfoldable pub tokens : List Token
tokens =
    letter Axis.x
    ∷ letter Axis.y
    ∷ letter Axis.z
    ∷ comma
    ∷ plus_sign
    ∷ minus_sign
    ∷ slash
    ∷ digit 0
    ∷ digit 1
    ∷ digit 2
    ∷ digit 3
    ∷ digit 4
    ∷ digit 5
    ∷ digit 6
    ∷ digit 7
    ∷ digit 8
    ∷ digit 9
    ∷ []

unfoldable pub token : ℕ → Option Token
unfolding first tokens
token b = first (λ c. eqb b (print_token c)) tokens

-- what stands in a term before an item: nothing, a `-`, or a term with a sign behind it
pub data Lead : Type 0 where
  bare dash : Lead
  add sub : Term → Lead

abbrev pub close : Lead → Item → Term
close bare i = record { first = Signed.plus i; rest = [] }
close dash i = record { first = Signed.minus i; rest = [] }
close (add t) i = record { first = t.first; rest = t.rest ++ (Signed.plus i ∷ []) }
close (sub t) i = record { first = t.first; rest = t.rest ++ (Signed.minus i ∷ []) }

-- What is read: the terms before the last comma, and of the next one a lead; a lead and a digit; these and a `/`; or a
-- term
-- that ends in an axis or a denominator.
pub data State : Type 0 where
  due : List Term → Lead → State
  number : List Term → Lead → ℕ → State
  over : List Term → Lead → ℕ → State
  ended : List Term → Term → State
  refused : State

-- f of the terms where the last one may end here, d where it may not
abbrev pub at_end : {A : Type 0} → A → (List Term → Term → A) → State → A
at_end d f (due ts l) = d
at_end d f (number ts l n) = f ts (close l (Item.whole n))
at_end d f (over ts l n) = d
at_end d f (ended ts t) = f ts t
at_end d f refused = d

abbrev pub on_letter : Axis → State → State
on_letter a (due ts l) = ended ts (close l (Item.axis a))
on_letter a (number ts l n) = ended ts (close l (Item.times n a))
on_letter a (over ts l n) = refused
on_letter a (ended ts t) = refused
on_letter a refused = refused

abbrev pub on_digit : ℕ → State → State
on_digit k (due ts l) = number ts l k
on_digit k (number ts l n) = refused
on_digit k (over ts l n) = cond (ltb 0 k) (ended ts (close l (Item.fraction n k))) refused
on_digit k (ended ts t) = refused
on_digit k refused = refused

abbrev pub on_slash : State → State
on_slash (due ts l) = refused
on_slash (number ts l n) = over ts l n
on_slash (over ts l n) = refused
on_slash (ended ts t) = refused
on_slash refused = refused

abbrev pub on_minus : State → State
on_minus (due ts bare) = due ts dash
on_minus (due ts dash) = refused
on_minus (due ts (add t)) = refused
on_minus (due ts (sub t)) = refused
on_minus (number ts l n) = due ts (sub (close l (Item.whole n)))
on_minus (over ts l n) = refused
on_minus (ended ts t) = due ts (sub t)
on_minus refused = refused

abbrev pub on_token : Token → State → State
on_token (letter a) s = on_letter a s
on_token (digit k) s = on_digit k s
on_token plus_sign s = at_end refused (λ ts t. due ts (add t)) s
on_token minus_sign s = on_minus s
on_token slash s = on_slash s
on_token comma s = at_end refused (λ ts t. due (ts ++ (t ∷ [])) bare) s

abbrev pub on : Option Token → State → State
on none s = refused
on (some c) s = on_token c s

unfoldable pub step : State → ℕ → State
unfolding token
step s b = on (token b) s

abbrev pub triplet : List Term → Option Triplet
triplet [] = none
triplet (a ∷ []) = none
triplet (a ∷ b ∷ []) = none
triplet (a ∷ b ∷ c ∷ []) = some (record { first = a; second = b; third = c })
triplet (a ∷ b ∷ c ∷ d ∷ l) = none

abbrev pub finish : State → Option Triplet
finish = at_end none (λ ts t. triplet (ts ++ (t ∷ [])))

unfoldable pub parse : List ℕ → Option Triplet
unfolding step
parse bs = finish (foldl step (due [] bare) bs)

-- ---- what it makes of a print

pub token_letter : (a : Axis) → token (print_axis a) ≡ some (letter a)
unfolding token
token_letter Axis.x = refl
token_letter Axis.y = refl
token_letter Axis.z = refl

-- what holds of k - 1, .., 0 holds of every number below k
abbrev Below : (ℕ → Type 0) → ℕ → Type 0
Below P zero = Unit {0}
Below P (suc k) = P k × Below P k

below : (P : ℕ → Type 0) (k : ℕ) → Below P k → (n : ℕ) → n < k → P n
below P zero h n l = absurd (omega arith)
below P (suc k) h n l = elim (ℕ_discrete n k) [ yes e ↦ rw e h.0 | no e ↦ below P k h.1 n (omega arith) ]

pub token_digit : (n : ℕ) → T (ltb n 10) → token (print_digit n) ≡ some (digit n)
unfolding token
token_digit n h =
    below (λ k. token (print_digit k) ≡ some (digit k)) 10
    (refl, (refl, (refl, (refl, (refl, (refl, (refl, (refl, (refl, (refl, tt)))))))))) n (ltb→lt n 10 h)

-- the state s has read the terms ts and, whole, the term t
data Behind : State → List Term → Term → Type 0 where
  letters : {ts : List Term} {t : Term} → Behind (ended ts t) ts t
  digits : {ts : List Term} {l : Lead} {n : ℕ} → Behind (number ts l n) ts (close l (Item.whole n))

after_plus : {s : State} {ts : List Term} {t : Term} → Behind s ts t → step s 43 ≡ due ts (add t)
unfolding step
after_plus letters = refl
after_plus digits = refl

after_minus : {s : State} {ts : List Term} {t : Term} → Behind s ts t → step s 45 ≡ due ts (sub t)
unfolding step
after_minus letters = refl
after_minus digits = refl

after_comma : {s : State} {ts : List Term} {t : Term} → Behind s ts t → step s 44 ≡ due (ts ++ (t ∷ [])) bare
unfolding step
after_comma letters = refl
after_comma digits = refl

after-all : {s : State} {ts : List Term} {t : Term} → Behind s ts t → finish s ≡ triplet (ts ++ (t ∷ []))
after-all letters = refl
after-all digits = refl

after_item : (ts : List Term) (l : Lead) (i : Item) → T (is_item i) → Behind (foldl step (due ts l) (print_item i)) ts (close l i)
unfolding step
after_item ts l (Item.axis a) h = rw (token_letter a) letters
after_item ts l (Item.times n a) h = rw (token_digit n h, token_letter a) letters
after_item ts l (Item.whole n) h = rw (token_digit n h) digits
after_item ts l (Item.fraction n d) h =
    rw (token_digit n (and_l (ltb n 10) _ h), token_digit d (and_r (ltb 0 d) _ (and_r (ltb n 10) _ h)), true_of (ltb 0 d) (and_l (ltb 0 d) _ (and_r (ltb n 10) _ h))) letters

after_next : {s : State} {ts : List Term} {t : Term} → Behind s ts t → (i : Signed) → T (is_item (item_of i)) →
    Behind (foldl step s (print_next i)) ts (record { first = t.first; rest = t.rest ++ (i ∷ []) })
after_next {ts} {t} b (Signed.plus i) h =
    subst (λ (q : State). Behind (foldl step q (print_item i)) ts (close (add t) i)) (sym (after_plus b)) (after_item ts (add t) i h)
after_next {ts} {t} b (Signed.minus i) h =
    subst (λ (q : State). Behind (foldl step q (print_item i)) ts (close (sub t) i)) (sym (after_minus b)) (after_item ts (sub t) i h)

after-rest : {s : State} {ts : List Term} {t : Term} → Behind s ts t → (r : List Signed) → T (all (λ i. is_item (item_of i)) r) →
    Behind (foldl step s (each print_next r)) ts (record { first = t.first; rest = t.rest ++ r })
unfolding each
after-rest b [] h = rw append-nil b
after-rest {s} {ts} {t} b (i ∷ r) h =
    rw (foldl-append, ← append_assoc t.rest (i ∷ []) r)
    (after-rest {s = foldl step s (print_next i)} (after_next b i (all_head _ i r h)) r (all_tail _ i r h))

after_first : (ts : List Term) (i : Signed) → T (is_item (item_of i)) →
    Behind (foldl step (due ts bare) (print_first i)) ts (record { first = i; rest = [] })
unfolding step
after_first ts (Signed.plus i) h = after_item ts bare i h
after_first ts (Signed.minus i) h = after_item ts dash i h

after_term : (ts : List Term) (t : Term) → T (is_term t) → Behind (foldl step (due ts bare) (print_term t)) ts t
after_term ts t h =
    rw foldl-append
    (after-rest (after_first ts t.first (all_head _ t.first t.rest h)) t.rest (all_tail _ t.first t.rest h))

-- a whole term and its comma
past_term : (ts : List Term) (t : Term) (l : List ℕ) → T (is_term t) →
    foldl step (due ts bare) (print_term t ++ 44 ∷ l) ≡ foldl step (due (ts ++ (t ∷ [])) bare) l
past_term ts t l h =
    foldl-append step (due ts bare) (print_term t) (44 ∷ l) ∙ ap (λ q. foldl step q l) (after_comma (after_term ts t h))

pub parse-print : (t : Triplet) → T (is_triplet t) → parse (print t) ≡ some t
unfolding parse print is_triplet
parse-print t h =
    ap finish (past_term [] t.first _ (and_l (is_term t.first) _ h)
    ∙ past_term (t.first ∷ []) t.second _ (and_l (is_term t.second) _ (and_r (is_term t.first) _ h)))
    ∙ after-all (after_term (t.first ∷ t.second ∷ []) t.third (and_r (is_term t.second) _ (and_r (is_term t.first) _ h)))
