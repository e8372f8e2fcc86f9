-- Laws of the first that passes: of a list, of what passes another test, of two lists.
use Rattle.std.specs.Prelude.{ℕ, zero, suc, ◌+◌, ◌≡◌, Bool}
use Rattle.std.proofs.Math.Path.{refl, sym, ap}
use Rattle.std.proofs.Common.{◌∙◌, arith}
use Rattle.std.proofs.Math.Bool.{true, false, cond}
use mathlib.Core.List.{List, [], ◌∷◌, ◌++◌, map, Memᴰ}
use Rattle.std.proofs.Math.Option.{Option, none, some}
use Rattle.definitions.specs.Lists.{any, first, those, up_from, up_to}

abbrev pub is_some : {A : Type 0} → Option A → Bool
is_some none = false
is_some (some a) = true

-- the first, or what comes behind it
abbrev pub or_else : {A : Type 0} → Option A → Option A → Option A
or_else none y = y
or_else (some a) y = some a

-- what f makes of it
abbrev pub mapped : {A B : Type 0} → (A → B) → Option A → Option B
mapped f none = none
mapped f (some a) = some (f a)

abbrev pub then_of : {A B : Type 0} → (A → Option B) → Option A → Option B
then_of f none = none
then_of f (some a) = f a

module _ {A : Type 0} (t : A → Bool) where
  pub first_cons : (a : A) (l : List A) → first t (a ∷ l) ≡ cond (t a) (some a) (first t l)
  unfolding first
  first_cons a l = by (t a)
    where
      by :
          (b : Bool) → elim b as (λ (x : Bool). Option A) [ true ↦ some a | false ↦ first t l ]
          ≡ cond b (some a) (first t l)
      by true = refl
      by false = refl

  -- there is a first just if there is one
  pub any_first : (l : List A) → any t l ≡ is_some (first t l)
  unfolding any first
  any_first [] = refl
  any_first (a ∷ l) = by (t a) (any_first l)
    where
      by :
          (b : Bool) → any t l ≡ is_some (first t l) →
          elim b as (λ (x : Bool). Bool) [ true ↦ true | false ↦ any t l ]
          ≡ is_some {A = A} (elim b as (λ (x : Bool). Option A) [ true ↦ some a | false ↦ first t l ])
      by true e = refl
      by false e = e

  pub first_append : (l m : List A) → first t (l ++ m) ≡ or_else (first t l) (first t m)
  unfolding first
  first_append [] m = refl
  first_append (a ∷ l) m = by (t a) (first_append l m)
    where
      by :
          (b : Bool) → first t (l ++ m) ≡ or_else (first t l) (first t m) →
          elim b as (λ (x : Bool). Option A) [ true ↦ some a | false ↦ first t (l ++ m) ]
          ≡ or_else (elim b as (λ (x : Bool). Option A) [ true ↦ some a | false ↦ first t l ]) (first t m)
      by true e = refl
      by false e = e

  -- what f makes of the elements
  pub first_map : {B : Type 0} (f : B → A) (l : List B) → first t (map f l) ≡ mapped f (first (λ b. t (f b)) l)
  unfolding first
  first_map f [] = refl
  first_map {B} f (x ∷ l) = by (t (f x)) (first_map f l)
    where
      by :
          (b : Bool) → first t (map f l) ≡ mapped f (first (λ b. t (f b)) l) →
          elim b as (λ (x : Bool). Option A) [ true ↦ some (f x) | false ↦ first t (map f l) ]
          ≡ mapped f (elim b as (λ (x : Bool). Option B) [ true ↦ some x | false ↦ first (λ b. t (f b)) l ])
      by true e = refl
      by false e = e

  -- a test that agrees on the elements
  pub first_same : (s : A → Bool) (l : List A) → ((a : A) → Memᴰ a l → t a ≡ s a) → first t l ≡ first s l
  unfolding first
  first_same s [] h = refl
  first_same s (a ∷ l) h =
      first_cons a l
      ∙ ap (λ b. cond b (some a) (first t l)) (h a (Memᴰ.head refl))
      ∙ ap (cond (s a) (some a)) (first_same s l (λ x m. h x (Memᴰ.tail m)))
      ∙ sym (by (s a))
    where
      by :
          (b : Bool) → elim b as (λ (x : Bool). Option A) [ true ↦ some a | false ↦ first s l ]
          ≡ cond b (some a) (first s l)
      by true = refl
      by false = refl

-- the elements that pass, of two lists
pub those-append : {A : Type 0} (q : A → Bool) (l m : List A) → those q (l ++ m) ≡ those q l ++ those q m
unfolding those
those-append q [] m = refl
those-append {A} q (a ∷ l) m = by (q a) (those-append q l m)
  where
    by :
        (b : Bool) → those q (l ++ m) ≡ those q l ++ those q m →
        elim b as (λ (x : Bool). List A) [ true ↦ a ∷ those q (l ++ m) | false ↦ those q (l ++ m) ]
        ≡ elim b as (λ (x : Bool). List A) [ true ↦ a ∷ those q l | false ↦ those q l ] ++ those q m
    by true e = ap (λ r. a ∷ r) e
    by false e = e

-- one number more
pub up_from-more : (k n : ℕ) → up_from k (suc n) ≡ up_from k n ++ ((k + n) ∷ [])
unfolding up_from
up_from-more k zero = let e : k ≡ k + 0 = omega arith in ap (λ x. x ∷ []) e
up_from-more k (suc n) =
    let e : suc k + n ≡ k + suc n = omega arith in
    ap (λ r. k ∷ r) (up_from-more (suc k) n ∙ ap (λ x. up_from (suc k) n ++ (x ∷ [])) e)

pub up_to-more : (n : ℕ) → up_to (suc n) ≡ up_to n ++ (n ∷ [])
up_to-more n = let e : 0 + n ≡ n = omega arith in up_from-more 0 n ∙ ap (λ x. up_to n ++ (x ∷ [])) e
