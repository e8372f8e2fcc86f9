-- Laws of the words on lists and of tests.
use Prim.Native.Nat.{ℕ, zero, suc, ◌+◌, ◌-◌, ◌*◌, ◌≤◌, ◌<◌}
use Rattle.std.specs.List.{list_all, list_any}
use Rattle.std.specs.Prelude.{◌≡◌, Bool, ◌&&◌, ◌||◌, ◌↔◌, ◌⊎◌, take, drop}
use Rattle.std.proofs.Math.Path.{refl, sym, ap, subst}
use Rattle.std.proofs.Common.{◌∙◌, inl, inr, ⊎_elim, le_of_suc-le-suc, not-suc-le-zero, mul-le-mul_right, suc-mul, add-one, drop_of_length-le, drop-cons}
use Rattle.std.proofs.Math.Bool.{true, false, and_assoc}
use mathlib.Core.List.{List, [], ◌∷◌, ◌++◌, map, append_assoc, Memᴰ}
use native.Mathlib.Omega.{arith}
use Rattle.std.proofs.Math.ListN.{get_or, length, length-append, get_or-append}
use Rattle.std.proofs.Math.Seq.{get_or-append-add}
use Rattle.std.proofs.Math.Dec.{T}
use Rattle.definitions.specs.Lists.{any, all, each, those, up_from, up_to}
use Rattle.laws.specs.Tests.{never, true_of}

-- ---- every element passes

module _ {A : Type 0} (p : A → Bool) where
  pub all_head : (a : A) (l : List A) → T (all p (a ∷ l)) → T (p a)
  unfolding all
  all_head a l h = by (p a) h
    where
      by : (b : Bool) → T (elim b [ true ↦ all p l | false ↦ false ]) → T b
      by true h = tt
      by false h = h

  pub all_tail : (a : A) (l : List A) → T (all p (a ∷ l)) → T (all p l)
  unfolding all
  all_tail a l h = by (p a) h
    where
      by : (b : Bool) → T (elim b [ true ↦ all p l | false ↦ false ]) → T (all p l)
      by true h = h
      by false h = absurd h

  pub all_cons : (a : A) (l : List A) → T (p a) → T (all p l) → T (all p (a ∷ l))
  unfolding all
  all_cons a l h k = subst (λ (b : Bool). T (elim b [ true ↦ all p l | false ↦ false ])) (sym (true_of (p a) h)) k

  pub all_snoc : (l : List A) (a : A) → T (all p l) → T (p a) → T (all p (l ++ (a ∷ [])))
  all_snoc [] a h k = all_cons a [] k h
  all_snoc (b ∷ l) a h k = all_cons b (l ++ (a ∷ [])) (all_head b l h) (all_snoc l a (all_tail b l h) k)

-- as the code tests: three elements at once, or what is left of a list
module _ {A : Type 0} (t : A → Bool) where
  pub all_three : (d : A) (l : List A) → length l ≡ 3 → (t (get_or l 0 d) && t (get_or l 1 d) && t (get_or l 2 d)) ≡ all t l
  unfolding all
  all_three d [] e = absurd (omega arith)
  all_three d (a ∷ []) e = absurd (omega arith)
  all_three d (a ∷ b ∷ []) e = absurd (omega arith)
  all_three d (a ∷ b ∷ c ∷ _ ∷ _) e = absurd (omega arith)
  all_three d (a ∷ b ∷ c ∷ []) e = by (t a) (t b) (t c)
    where
      by : (x y z : Bool) → (x && y && z) ≡ elim x [ true ↦ elim y [ true ↦ elim z [ true ↦ true | false ↦ false ] | false ↦ false ] | false ↦ false ]
      by true true true = refl
      by true true false = refl
      by true false z = refl
      by false y z = refl

  pub all_is : (a : A) (l : List A) → all t (a ∷ l) ≡ (t a && all t l)
  unfolding all
  all_is a l = by (t a)
    where
      by : (b : Bool) → elim b as (λ (x : Bool). Bool) [ true ↦ all t l | false ↦ false ] ≡ (b && all t l)
      by true = refl
      by false = refl

  pub all_append : (a b : List A) → all t (a ++ b) ≡ (all t a && all t b)
  unfolding all
  all_append [] b = refl
  all_append (x ∷ a) b =
      all_is x (a ++ b)
      ∙ ap (λ (y : Bool). t x && y) (all_append a b)
      ∙ sym (and_assoc (t x) (all t a) (all t b))
      ∙ ap (λ (y : Bool). y && all t b) (sym (all_is x a))

  -- what `Iterator::all` says of a list
  pub list_all-is_all : (l : List A) → list_all t l ≡ all t l
  unfolding all
  list_all-is_all [] = refl
  list_all-is_all (a ∷ l) = ap (λ (y : Bool). t a && y) (list_all-is_all l) ∙ sym (all_is a l)

  -- what `Iterator::any` says of a list
  pub list_any-is_any : (l : List A) → list_any t l ≡ any t l
  unfolding any
  list_any-is_any [] = refl
  list_any-is_any (a ∷ l) = ap (λ (y : Bool). t a || y) (list_any-is_any l) ∙ by (t a)
    where
      by : (b : Bool) → (b || any t l) ≡ elim b as (λ (x : Bool). Bool) [ true ↦ true | false ↦ any t l ]
      by true = refl
      by false = refl

  module _ (d : A) (l : List A) (i : ℕ) (h : i < length l) where
    pub all_pass : t (get_or l i d) ≡ true → all t (drop i l) ≡ all t (drop (i + 1) l)
    all_pass e = rw (add-one, drop-cons l i d, all_is (get_or l i d) (drop (suc i) l), e)

    pub all_fail : t (get_or l i d) ≡ false → all t (drop i l) ≡ false
    all_fail e = rw (drop-cons l i d, all_is (get_or l i d) (drop (suc i) l), e)

  pub all_end : (l : List A) (i : ℕ) → length l ≤ i → true ≡ all t (drop i l)
  unfolding all
  all_end l i h = rw (drop_of_length-le l h)

-- ---- one element at least passes

module _ {A : Type 0} (t : A → Bool) (a : A) (l : List A) where
  pub any_head : t a ≡ true → any t (a ∷ l) ≡ true
  unfolding any
  any_head e = rw (e, any)

  pub any-tail : any t l ≡ true → any t (a ∷ l) ≡ true
  unfolding any
  any-tail e = by (t a)
    where
      by : (b : Bool) → elim b as (λ (x : Bool). Bool) [ true ↦ true | false ↦ any t l ] ≡ true
      by true = refl
      by false = e

  pub any_none : t a ≡ false → any t l ≡ false → any t (a ∷ l) ≡ false
  unfolding any
  any_none e f = rw (e, any) f

  -- and of none
  pub none_head : any t (a ∷ l) ≡ false → t a ≡ false
  unfolding any
  none_head = by (t a)
    where
      by : (b : Bool) → elim b as (λ (x : Bool). Bool) [ true ↦ true | false ↦ any t l ] ≡ false → b ≡ false
      by true e = e
      by false e = refl

  pub none_tail : any t (a ∷ l) ≡ false → any t l ≡ false
  unfolding any
  none_tail = by (t a)
    where
      by : (b : Bool) → elim b as (λ (x : Bool). Bool) [ true ↦ true | false ↦ any t l ] ≡ false → any t l ≡ false
      by true e = absurd (never (sym e))
      by false e = e

-- ---- one test and another

-- what passes one test passes the other
pub all_mono : {A : Type 0} (p q : A → Bool) → ((a : A) → T (p a) → T (q a)) → (l : List A) → T (all p l) → T (all q l)
unfolding all
all_mono p q f [] h = tt
all_mono p q f (a ∷ l) h = all_cons q a l (f a (all_head p a l h)) (all_mono p q f l (all_tail p a l h))

pub all_map : {A B : Type 0} (t : B → Bool) (f : A → B) (l : List A) → T (all (λ a. t (f a)) l) → T (all t (map f l))
unfolding all
all_map t f [] h = tt
all_map t f (a ∷ l) h = all_cons t (f a) (map f l) (all_head (λ a. t (f a)) a l h) (all_map t f l (all_tail (λ a. t (f a)) a l h))

-- every element passes: so does each
pub all_mem : {A : Type 0} (t : A → Bool) (l : List A) (x : A) → T (all t l) → Memᴰ x l → T (t x)
unfolding all
all_mem t [] x a m = absurd (mathlib.Core.List.Memᴰ.not-nil m)
all_mem t (y ∷ l) x a m = go (t y) refl a (mathlib.Core.List.Memᴰ.cases_cons m) (λ b m. all_mem t l x b m)
  where
    go :
        (b : Bool) → t y ≡ b → T (elim b as (λ u. Bool) [ true ↦ all t l | false ↦ false ]) → (x ≡ y) ⊎ Memᴰ x l →
        (T (all t l) → Memᴰ x l → T (t x)) → T (t x)
    go true e a (inl w) rest = subst T (sym (ap t w ∙ e)) tt
    go true e a (inr m) rest = rest a m
    go false e a w rest = absurd a

pub mem_at : {A : Type 0} (l : List A) (i : ℕ) (d : A) → i < length l → Memᴰ (get_or l i d) l
mem_at [] i d h = absurd (not-suc-le-zero h)
mem_at (a ∷ l) zero d h = mathlib.Core.List.Memᴰ.head refl
mem_at (a ∷ l) (suc i) d h = mathlib.Core.List.Memᴰ.tail (mem_at l i d (le_of_suc-le-suc h))

pub all_at : {A : Type 0} (t : A → Bool) (l : List A) (i : ℕ) (d : A) → T (all t l) → i < length l → T (t (get_or l i d))
all_at t l i d a h = all_mem t l (get_or l i d) a (mem_at l i d h)

-- ---- three entries

pub three-cons : {A : Type 0} {x x' y y' z z' : A} → x ≡ x' → y ≡ y' → z ≡ z' → x ∷ y ∷ z ∷ [] ≡ x' ∷ y' ∷ z' ∷ []
three-cons p q r = λ i. p i ∷ q i ∷ r i ∷ []

-- ---- what stands at a place

-- within a list the default is not read
pub get_d_default : {A : Type 0} (l : List A) (i : ℕ) (d e : A) → i < length l → get_or l i d ≡ get_or l i e
get_d_default [] i d e h = absurd (not-suc-le-zero h)
get_d_default (a ∷ l) zero d e h = refl
get_d_default (a ∷ l) (suc i) d e h = get_d_default l i d e (le_of_suc-le-suc h)

pub map_at : {A B : Type 0} (f : A → B) (l : List A) (i : ℕ) (d : A) (e : B) → i < length l → get_or (map f l) i e ≡ f (get_or l i d)
map_at f [] i d e h = absurd (not-suc-le-zero h)
map_at f (a ∷ l) zero d e h = refl
map_at f (a ∷ l) (suc i) d e h = map_at f l i d e (le_of_suc-le-suc h)

pub length-up_from : (k n : ℕ) → length (up_from k n) ≡ n
unfolding up_from
length-up_from k zero = refl
length-up_from k (suc n) = ap suc (length-up_from (suc k) n)

pub up_from_at : (k n i : ℕ) → i < n → get_or (up_from k n) i 0 ≡ k + i
unfolding up_from
up_from_at k zero i h = absurd (not-suc-le-zero h)
up_from_at k (suc n) zero h = omega arith
up_from_at k (suc n) (suc i) h = omega (arith, up_from_at (suc k) n i (le_of_suc-le-suc h))

pub up_to_at : (n i : ℕ) → i < n → get_or (up_to n) i 0 ≡ i
up_to_at n i h = omega (arith, up_from_at 0 n i h)

pub below_up_to : (n i : ℕ) → i < n → i < length (up_to n)
below_up_to n i h = omega (arith, length-up_from 0 n)

pub from_up_from : (k n i : ℕ) → Memᴰ i (up_from k n) → (k ≤ i) × (i < k + n)
unfolding up_from
from_up_from k zero i m = absurd (mathlib.Core.List.Memᴰ.not-nil m)
from_up_from k (suc n) i m =
    ⊎_elim
    (λ e. omega arith)
    (λ m. let h : (suc k ≤ i) × (i < suc k + n) = from_up_from (suc k) n i m in omega arith)
    (mathlib.Core.List.Memᴰ.cases_cons m)

pub in_up_from : (k n i : ℕ) → i < n → Memᴰ (k + i) (up_from k n)
unfolding up_from
in_up_from k zero i h = absurd (not-suc-le-zero h)
in_up_from k (suc n) zero h = let o : k + 0 ≡ k = omega arith in mathlib.Core.List.Memᴰ.head o
in_up_from k (suc n) (suc i) h = mathlib.Core.List.Memᴰ.tail (mathlib.Core.List.Memᴰ.cast up (in_up_from (suc k) n i (le_of_suc-le-suc h)))
  where
    up : k + suc i ≡ suc k + i
    up = omega arith

pub in_up_to : (n i : ℕ) → i < n → Memᴰ i (up_to n)
in_up_to n i h = let o : i ≡ 0 + i = omega arith in mathlib.Core.List.Memᴰ.cast o (in_up_from 0 n i h)

pub from_up_to : (n i : ℕ) → Memᴰ i (up_to n) → i < n
from_up_to n i m = omega (arith, from_up_from 0 n i m)

-- what f makes of the elements
pub in_map : {A B : Type 0} (f : A → B) (l : List A) (x : A) → Memᴰ x l → Memᴰ (f x) (map f l)
in_map f [] x m = absurd (mathlib.Core.List.Memᴰ.not-nil m)
in_map f (a ∷ l) x m =
    ⊎_elim (λ w. mathlib.Core.List.Memᴰ.head (ap f w)) (λ m. mathlib.Core.List.Memᴰ.tail (in_map f l x m)) (mathlib.Core.List.Memᴰ.cases_cons m)

pub from_map : {A B : Type 0} (f : A → B) (l : List A) (y : B) → Memᴰ y (map f l) → (x : A) × Memᴰ x l × (y ≡ f x)
from_map f [] y m = absurd (mathlib.Core.List.Memᴰ.not-nil m)
from_map f (a ∷ l) y m =
    ⊎_elim
    (λ w. (a, mathlib.Core.List.Memᴰ.head refl, w))
    (λ m. let r = from_map f l y m in (r.0, mathlib.Core.List.Memᴰ.tail r.1, r.2))
    (mathlib.Core.List.Memᴰ.cases_cons m)

-- the elements that pass are those of the list that do
pub in_those : {A : Type 0} (t : A → Bool) (l : List A) (x : A) → Memᴰ x l → t x ≡ true → Memᴰ x (those t l)
unfolding those
in_those t [] x m e = absurd (mathlib.Core.List.Memᴰ.not-nil m)
in_those {A} t (a ∷ l) x m e = go (t a) refl (mathlib.Core.List.Memᴰ.cases_cons m) (λ m. in_those t l x m e)
  where
    go :
        (b : Bool) → t a ≡ b → (x ≡ a) ⊎ Memᴰ x l → (Memᴰ x l → Memᴰ x (those t l)) →
        Memᴰ x (elim b as (λ u. List A) [ true ↦ a ∷ those t l | false ↦ those t l ])
    go true q (inl w) rest = mathlib.Core.List.Memᴰ.head w
    go true q (inr m) rest = mathlib.Core.List.Memᴰ.tail (rest m)
    go false q (inl w) rest = let z : true ≡ false = cc in absurd (subst T z tt)
    go false q (inr m) rest = rest m

pub from_those : {A : Type 0} (t : A → Bool) (l : List A) (x : A) → Memᴰ x (those t l) → Memᴰ x l × (t x ≡ true)
unfolding those
from_those t [] x m = absurd (mathlib.Core.List.Memᴰ.not-nil m)
from_those {A} t (a ∷ l) x m = go (t a) refl m (λ m. from_those t l x m)
  where
    more : Memᴰ x l × (t x ≡ true) → Memᴰ x (a ∷ l) × (t x ≡ true)
    more h = (mathlib.Core.List.Memᴰ.tail h.0, h.1)

    go :
        (b : Bool) → t a ≡ b → Memᴰ x (elim b as (λ u. List A) [ true ↦ a ∷ those t l | false ↦ those t l ]) →
        (Memᴰ x (those t l) → Memᴰ x l × (t x ≡ true)) → Memᴰ x (a ∷ l) × (t x ≡ true)
    go true q m rest = ⊎_elim (λ w. (mathlib.Core.List.Memᴰ.head w, ap t w ∙ q)) (λ m. more (rest m)) (mathlib.Core.List.Memᴰ.cases_cons m)
    go false q m rest = more (rest m)

-- the numbers below n that pass
pub those-up_to : (t : ℕ → Bool) (n j : ℕ) → Memᴰ j (those t (up_to n)) ↔ ((j < n) × (t j ≡ true))
those-up_to t n j = (
  λ m. let h : Memᴰ j (up_to n) × (t j ≡ true) = from_those t (up_to n) j m in (from_up_to n j h.0, h.1),
  λ h. in_those t (up_to n) j (in_up_to n j h.0) h.1,
)

-- ---- lists laid one behind the other

pub each_append : {A B : Type 0} (f : A → List B) (a b : List A) → each f (a ++ b) ≡ each f a ++ each f b
unfolding each
each_append f [] b = refl
each_append f (x ∷ a) b = ap (λ l. f x ++ l) (each_append f a b) ∙ sym (append_assoc (f x) (each f a) (each f b))

-- ---- lists of one length laid one behind the other

-- the list o of k lists of n ends within the whole
pub part_room : (o k n t : ℕ) → o < k → t ≡ k * n → o * n + n ≤ t
part_room o k n t h e = rw (e, ← suc-mul o n) (mul-le-mul_right n h)

-- where the next one starts
pub next_part : (o at n : ℕ) → at ≡ o * n → at + n ≡ (o + 1) * n
next_part o at n e = rw (e, add-one) (sym (suc-mul o n))

-- the part from `at` to `at + n`, as the code lends it
pub part_of : {A : Type 0} (l : List A) (n o at : ℕ) → at ≡ o * n → take (at + n - at) (drop at l) ≡ take n (drop (o * n) l)
part_of l n o at e = let w : at + n - at ≡ n = omega arith in rw (w, e)

-- the place k of the list i, of a lists of m, is a place of the whole
pub place_below : (a m i k : ℕ) → i < a → k < m → i * m + k < a * m
place_below zero m i k h g = absurd (not-suc-le-zero h)
place_below (suc a) m zero k h g = omega arith
place_below (suc a) m (suc i) k h g = omega (arith, place_below a m i k (le_of_suc-le-suc h) g)

module _ {A B : Type 0} (f : A → List B) (m : ℕ) (size : (x : A) → length (f x) ≡ m) where
  pub length-each : (l : List A) → length (each f l) ≡ length l * m
  unfolding each
  length-each [] = omega arith
  length-each (x ∷ l) = omega (arith, length-append (f x) (each f l), size x, length-each l)

  pub each_at : (l : List A) (i k : ℕ) (d : A) (e : B) → i < length l → k < m → get_or (each f l) (i * m + k) e ≡ get_or (f (get_or l i d)) k e
  unfolding each
  each_at [] i k d e h g = absurd (not-suc-le-zero h)
  each_at (x ∷ l) zero k d e h g =
      let o : 0 * m + k ≡ k = omega arith in
      let u : k < length (f x) = omega (arith, size x) in
      ap (λ n. get_or (f x ++ each f l) n e) o ∙ get_or-append (f x) (each f l) e k u
  each_at (x ∷ l) (suc i) k d e h g =
      let o : suc i * m + k ≡ length (f x) + (i * m + k) = omega (arith, size x) in
      ap (λ n. get_or (f x ++ each f l) n e) o
      ∙ get_or-append-add (f x) (each f l) (i * m + k) e
      ∙ each_at l i k d e (le_of_suc-le-suc h) g
