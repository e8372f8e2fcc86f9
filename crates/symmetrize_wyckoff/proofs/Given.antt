-- The tests of the guard, as the code joins them and as the definition does; and what they say where they hold.
use Prim.Native.Nat.{ℕ, ◌≤◌}
use mathlib.Core.Path.{◌≡◌, refl, sym, ap, ◌∙◌}
use mathlib.Core.Bool.{Bool, true, false, not, ◌&&◌, ◌||◌, and_assoc}
use mathlib.Core.List.{List, [], ◌∷◌}
use borrow.Author.Tests.{ltb-true, ltb-false, le-leb, lt-leb, eqb-true, not-false}
use lib.Dec.{T, leb, ltb, eqb, ltb→lt}
use lib.ListN.{length, get_or}
use Rattle.definitions.specs.Limits.{too_many_listed, too_many_candidates, shorter_than}
use Rattle.definitions.specs.Lent.{unlike}
use Rattle.definitions.specs.Lists.{all, any}
use Rattle.definitions.specs.SiteCalls.{AssignArguments, space_rooms, assignable}
use Rattle.laws.specs.Lists.{all_at, none_head, none_tail}
use Rattle.data_wyckoff.specs.declared.space.Space as code
use Rattle.data_wyckoff.specs.Spaces.{lists}
use Rattle.data_wyckoff.proofs.Promise.{rooms_alike}
use Rattle.laws.specs.Tests.{so, both_pass}
use Rattle.symmetrize_wyckoff.specs.Prepared.{Assignable}

pub at_most : (a b : ℕ) → leb a b ≡ not (ltb b a)
at_most a b = by (ltb b a) refl
  where
    by : (t : Bool) → ltb b a ≡ t → leb a b ≡ not t
    by true e = lt-leb a b (ltb-true b a e)
    by false e = le-leb a b (ltb-false b a e)

-- six tests, each as another
pub six-same :
    {a a' b b' c c' d d' e e' f f' : Bool} → a ≡ a' → b ≡ b' → c ≡ c' → d ≡ d' → e ≡ e' → f ≡ f' →
    (a && b && c && d && e && f) ≡ (a' && b' && c' && d' && e' && f')
six-same p q r s t u = λ i. p i && q i && r i && s i && t i && u i

-- eight tests, two and two of them each as one
pub eight-six :
    {a a' b b' c' d' e e' f f' : Bool} (c₁ c₂ d₁ d₂ : Bool) → a ≡ a' → b ≡ b' → (c₁ && c₂) ≡ c' → (d₁ && d₂) ≡ d' →
    e ≡ e' → f ≡ f' →
    (a && b && c₁ && c₂ && d₁ && d₂ && e && f) ≡ (a' && b' && c' && d' && e' && f')
eight-six {a} {a'} {b} {b'} {c'} {d'} {e} {e'} {f} {f'} c₁ c₂ d₁ d₂ p q r s t u =
    ap (λ x. x && d₁ && d₂ && e && f) (and_assoc (a && b) c₁ c₂)
    ∙ ap (λ x. x && e && f) (and_assoc (a && b && (c₁ && c₂)) d₁ d₂)
    ∙ six-same p q r s t u

-- the first of five apart from the others
pub five_or : (a b c d e : Bool) → (a || b || c || d || e) ≡ (a || (b || c || d || e))
five_or true b c d e = refl
five_or false b c d e = refl

alone : (b : Bool) → elim b as (λ (x : Bool). Bool) [ true ↦ true | false ↦ false ] ≡ b
alone true = refl
alone false = refl

-- two lists are as long as a third just if none of them is not
pub both_alike : (n a b : ℕ) → (eqb n a && eqb n b) ≡ not (any (unlike n) (a ∷ b ∷ []))
unfolding any
both_alike n a b = by (eqb n a) (eqb n b)
  where
    by :
        (x y : Bool) → (x && y)
        ≡ not (elim (not x) as (λ (z : Bool). Bool) [
          | true ↦ true
          | false ↦ elim (not y) as (λ (z : Bool). Bool) [ true ↦ true | false ↦ false ]
        ])
    by true true = refl
    by true false = refl
    by false y = refl

-- so too where one of them is a list of spaces, by its fields' lists
pub prepared_alike :
    (m a : ℕ) (ss : List code.Space) →
    (eqb m a && eqb m (length ss)) ≡ not (any (unlike m) (a ∷ space_rooms (lists ss)))
unfolding any
prepared_alike m a ss = both_alike m a (length ss) ∙ ap not (by (unlike m a))
  where
    rest : any (unlike m) (length ss ∷ []) ≡ any (unlike m) (space_rooms (lists ss))
    rest = alone (unlike m (length ss)) ∙ sym (rooms_alike (unlike m) ss)

    by :
        (b : Bool) → elim b as (λ (x : Bool). Bool) [ true ↦ true | false ↦ any (unlike m) (length ss ∷ []) ]
        ≡ elim b as (λ (x : Bool). Bool) [ true ↦ true | false ↦ any (unlike m) (space_rooms (lists ss)) ]
    by true = refl
    by false = rest

-- ---- what it says

is_not : (b : Bool) → T (not b) → b ≡ false
is_not true h = absurd h
is_not false h = refl

alike : (n a : ℕ) → unlike n a ≡ false → n ≡ a
alike n a u = eqb-true n a (not-false (eqb n a) u)

module _ (x : AssignArguments) (room : ℕ) (given : assignable x room ≡ true) where
  abbrev n : ℕ
  n = length x.labels

  abbrev m : ℕ
  m = length x.candidates

  abbrev sized : List ℕ
  sized = length x.multiplicities ∷ length x.positions ∷ []

  abbrev rooms : List ℕ
  rooms = length x.letters ∷ space_rooms x.spaces

  abbrev one : Bool
  one = not (too_many_listed n)

  abbrev two : Bool
  two = one && not (too_many_candidates m)

  abbrev three : Bool
  three = two && not (any (unlike n) sized)

  abbrev four : Bool
  four = three && not (any (unlike m) rooms)

  abbrev five : Bool
  five = four && not (shorter_than n room)

  last : T five × T (all (λ l. ltb l n) x.labels)
  last = both_pass five (all (λ l. ltb l n) x.labels) (so given)

  fifth : T four × T (not (shorter_than n room))
  fifth = both_pass four (not (shorter_than n room)) last.0

  fourth : T three × T (not (any (unlike m) rooms))
  fourth = both_pass three (not (any (unlike m) rooms)) fifth.0

  third : T two × T (not (any (unlike n) sized))
  third = both_pass two (not (any (unlike n) sized)) fourth.0

  second : T one × T (not (too_many_candidates m))
  second = both_pass one (not (too_many_candidates m)) third.0

  -- none of the lists of candidates is unlike
  abbrev a : ℕ
  a = length x.letters

  r1 : any (unlike m) rooms ≡ false
  r1 = is_not (any (unlike m) rooms) fourth.1

  abbrev l1 : List ℕ
  l1 = space_rooms x.spaces

  abbrev l2 : List ℕ
  l2 = length x.spaces.shifts ∷ length x.spaces.ds ∷ length x.spaces.ls ∷ length x.spaces.rs ∷ []

  abbrev l3 : List ℕ
  l3 = length x.spaces.ds ∷ length x.spaces.ls ∷ length x.spaces.rs ∷ []

  abbrev l4 : List ℕ
  l4 = length x.spaces.ls ∷ length x.spaces.rs ∷ []

  abbrev l5 : List ℕ
  l5 = length x.spaces.rs ∷ []

  r2 : any (unlike m) l1 ≡ false
  r2 = none_tail (unlike m) a l1 r1

  r3 : any (unlike m) l2 ≡ false
  r3 = none_tail (unlike m) (length x.spaces.matrices) l2 r2

  r4 : any (unlike m) l3 ≡ false
  r4 = none_tail (unlike m) (length x.spaces.shifts) l3 r3

  r5 : any (unlike m) l4 ≡ false
  r5 = none_tail (unlike m) (length x.spaces.ds) l4 r4

  r6 : any (unlike m) l5 ≡ false
  r6 = none_tail (unlike m) (length x.spaces.ls) l5 r5

  s1 : any (unlike n) sized ≡ false
  s1 = is_not (any (unlike n) sized) third.1

  s2 : any (unlike n) (length x.positions ∷ []) ≡ false
  s2 = none_tail (unlike n) (length x.multiplicities) (length x.positions ∷ []) s1

  pub facts : Assignable x
  facts =
      record {
        listed = ltb-false 1024 n (is_not (too_many_listed n) second.0);
        few = ltb-false 64 m (is_not (too_many_candidates m) second.1);
        multiplicities =
            sym (alike n (length x.multiplicities)
            (none_head (unlike n) (length x.multiplicities) (length x.positions ∷ []) s1));
        positions = sym (alike n (length x.positions) (none_head (unlike n) (length x.positions) [] s2));
        letters = sym (alike m a (none_head (unlike m) a l1 r1));
        matrices =
            sym (alike m (length x.spaces.matrices) (none_head (unlike m) (length x.spaces.matrices) l2 r2));
        shifts = sym (alike m (length x.spaces.shifts) (none_head (unlike m) (length x.spaces.shifts) l3 r3));
        ds = sym (alike m (length x.spaces.ds) (none_head (unlike m) (length x.spaces.ds) l4 r4));
        ls = sym (alike m (length x.spaces.ls) (none_head (unlike m) (length x.spaces.ls) l5 r5));
        rs = sym (alike m (length x.spaces.rs) (none_head (unlike m) (length x.spaces.rs) [] r6));
        below = λ k h. ltb→lt (get_or x.labels k 0) n (all_at (λ l. ltb l n) x.labels k 0 last.1 h);
      }

  pub fits_room : n ≤ room
  fits_room = ltb-false room n (is_not (shorter_than n room) fifth.1)
