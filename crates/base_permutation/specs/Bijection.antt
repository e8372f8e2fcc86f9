-- A permutation of n sites is a bijection: `inverse_image` is its inverse on both sides, and the identity, inverses and
-- products are permutations.
use Rattle.std.specs.Prelude.{ℕ, zero, suc, ◌+◌, ◌≤◌, ◌<◌, ◌≡◌, refl, Bool, true, false, ◌&&◌, List, [], ◌∷◌, map, T, take}
use Rattle.std.proofs.Math.Path.{sym}
use Rattle.std.proofs.Common.{ap, ◌∙◌, subst, ⊎_elim, arith, not-suc-le-zero, le_of_suc-le-suc, eq-or-lt_of_le, get_or-take, length-take-le}
use Rattle.std.proofs.Math.Dec.{ltb, eqb}
use Rattle.std.proofs.Math.ListN.{length, get_or}
use Rattle.std.proofs.lemmas.List.{length-map}
use borrow.Author.Tests.{lt-ltb, ltb-true, eq-eqb, eqb-true, ne_eqb}
use Rattle.definitions.specs.Lists.{count, up_to}
use Rattle.definitions.specs.Permutation.{image, is_permutation, inverse_image, after}
use Rattle.laws.specs.Counting.{bit, all_of, all_at, count-cons, count_from, count_once, count-place, first_found, length-up_to, get_d_up_to}
use Rattle.laws.specs.Tests.{never}

-- ---- the test and what it says

-- n images below n, no two alike
pub record Bijection (n : ℕ) (p : List ℕ) : Type 0 where
  pub size : length p ≡ n
  pub below : (i : ℕ) → i < n → image p i < n
  pub once : (i j : ℕ) → i < n → j < n → image p i ≡ image p j → i ≡ j

pub true→T : {b : Bool} → b ≡ true → T b
true→T e = subst T (sym e) tt

pub T→true : (b : Bool) → T b → b ≡ true
T→true true t = refl
T→true false t = absurd t

and-true : {a b : Bool} → a ≡ true → b ≡ true → (a && b) ≡ true
and-true e f = rw (e, f)

and_left : (a b : Bool) → (a && b) ≡ true → a ≡ true
and_left true b e = refl
and_left false b e = e

and_right : (a b : Bool) → (a && b) ≡ true → b ≡ true
and_right true b e = e
and_right false b e = absurd (never e)

-- Images below n that each count at most once pass the test.
pub passes : (n : ℕ) (p : List ℕ) → length p ≡ n → ((i : ℕ) → i < n → (image p i < n) × (count (eqb (image p i)) p ≤ 1)) → is_permutation n p ≡ true
unfolding is_permutation
passes n p s h =
    and-true (eq-eqb (length p) n s)
    (all_of (λ i. ltb i n && eqb (count (eqb i) p) 1) 0 p
    (λ i k.
    let g = h i (omega arith) in
    let c = count_from (eqb (image p i)) 0 p i k (eq-eqb (image p i) (image p i) refl) in
    and-true (lt-ltb (image p i) n g.0) (eq-eqb (count (eqb (image p i)) p) 1 (omega (arith, g.1, c)))))

module _ (n : ℕ) (p : List ℕ) (b : Bijection n p) where
  -- a number stands at one place at most
  once_at : (x : ℕ) → count (eqb x) p ≤ 1
  once_at x = count_once (eqb x) 0 p (λ i j k m e f. b.once i j (omega (arith, b.size)) (omega (arith, b.size)) (sym (eqb-true x (image p i) e) ∙ eqb-true x (image p j) f))

  pub permutation : is_permutation n p ≡ true
  permutation = passes n p b.size (λ i k. (b.below i k, once_at (image p i)))

module _ (n : ℕ) (p : List ℕ) (t : is_permutation n p ≡ true) where
  size_of : length p ≡ n
  unfolding is_permutation
  size_of = eqb-true (length p) n (and_left (eqb (length p) n) _ t)

  at_place : (i : ℕ) → i < n → (ltb (image p i) n && eqb (count (eqb (image p i)) p) 1) ≡ true
  unfolding is_permutation
  at_place i k = all_at (λ i. ltb i n && eqb (count (eqb i) p) 1) 0 p (and_right (eqb (length p) n) _ t) i (omega (arith, size_of))

  -- each image counts once
  pub counted : (i : ℕ) → i < n → count (eqb (image p i)) p ≡ 1
  counted i k = eqb-true _ _ (and_right (ltb (image p i) n) _ (at_place i k))

  -- the later of two like images would count twice
  apart : (i j : ℕ) → i < j → j < n → image p i ≡ image p j → ⊥
  apart i j h k e =
      let x = image p j in
      let c = count_from (eqb x) 0 p j (omega (arith, size_of)) (eq-eqb x x refl) in
      let d = count_from (eqb x) 0 (take j p) i (omega (arith, length-take-le j p (omega (arith, size_of)))) (rw (get_or-take j p i 0, e) (eq-eqb x x refl)) in
      let o = counted j k in
      omega arith

  pub bijection : Bijection n p
  bijection = record {
    size = size_of;
    below = λ i k. ltb-true _ _ (and_left (ltb (image p i) n) _ (at_place i k));
    once = λ i j k m e.
        let l : i < j → ⊥ = λ h. apart i j h m e in
        let g : j < i → ⊥ = λ h. apart j i h k (sym e) in
        omega arith;
  }

-- ---- n images below n, no two alike, are all the sites

total : (ℕ → ℕ) → ℕ → ℕ
total f zero = 0
total f (suc n) = total f n + f n

total-sum : (f g h : ℕ → ℕ) → ((x : ℕ) → f x ≡ g x + h x) → (n : ℕ) → total f n ≡ total g n + total h n
unfolding total
total-sum f g h e zero = omega arith
total-sum f g h e (suc n) = omega (arith, total-sum f g h e n, e n)

total-zero : (f : ℕ → ℕ) (n : ℕ) → ((x : ℕ) → x < n → f x ≡ 0) → total f n ≡ 0
unfolding total
total-zero f zero e = refl
total-zero f (suc n) e = omega (arith, total-zero f n (λ x k. e x (omega arith)), e n (omega arith))

-- one site counts once
total_one : (a n : ℕ) → a < n → total (λ x. bit (eqb x a)) n ≡ 1
unfolding total
total_one a zero k = absurd (not-suc-le-zero k)
total_one a (suc n) k = ⊎_elim (λ e. here e) (λ l. later l (total_one a n l)) (eq-or-lt_of_le (le_of_suc-le-suc k))
  where
    here : a ≡ n → total (λ x. bit (eqb x a)) n + bit (eqb n a) ≡ 1
    here e =
        let z = total-zero (λ x. bit (eqb x a)) n (λ x l. rw (ne_eqb x a (λ q. omega arith))) in
        rw (eq-eqb n a (sym e)) (omega arith)

    later : a < n → total (λ x. bit (eqb x a)) n ≡ 1 → total (λ x. bit (eqb x a)) n + bit (eqb n a) ≡ 1
    later l z = rw (ne_eqb n a (λ q. omega arith)) (omega arith)

-- each place counts for the site that it holds
total-count : (n : ℕ) (l : List ℕ) → ((i : ℕ) → i < length l → image l i < n) → total (λ x. count (eqb x) l) n ≡ length l
unfolding count
total-count n [] h = total-zero (λ x. 0) n (λ x k. refl)
total-count n (a ∷ l) h =
    omega (arith, total-sum (λ x. count (eqb x) (a ∷ l)) (λ x. bit (eqb x a)) (λ x. count (eqb x) l) (λ x. count-cons (eqb x) a l) n, total_one a n (h 0 (omega arith)), total-count n l (λ i k. h (suc i) (omega arith)))

total-most : (f : ℕ → ℕ) → ((x : ℕ) → f x ≤ 1) → (n : ℕ) → total f n ≤ n
unfolding total
total-most f m zero = omega arith
total-most f m (suc n) = omega (arith, total-most f m n, m n)

total_full : (f : ℕ → ℕ) → ((x : ℕ) → f x ≤ 1) → (n : ℕ) → total f n ≡ n → (x : ℕ) → x < n → 0 < f x
unfolding total
total_full f m zero e x k = absurd (not-suc-le-zero k)
total_full f m (suc n) e x k =
    let most = total-most f m n in
    let one = m n in
    let all_but_one : total f n ≡ n = omega arith in
    ⊎_elim (λ q. rw q (omega arith)) (λ l. total_full f m n all_but_one x l) (eq-or-lt_of_le (le_of_suc-le-suc k))

total-least : (f : ℕ → ℕ) (n : ℕ) → ((x : ℕ) → x < n → 0 < f x) → n ≤ total f n
unfolding total
total-least f zero h = omega arith
total-least f (suc n) h = omega (arith, total-least f n (λ x k. h x (omega arith)), h n (omega arith))

-- where each counts, the total has room for one of them beside the others
total_beside : (f : ℕ → ℕ) (n : ℕ) → ((x : ℕ) → x < n → 0 < f x) → (x : ℕ) → x < n → n + f x ≤ total f n + 1
unfolding total
total_beside f zero h x k = absurd (not-suc-le-zero k)
total_beside f (suc n) h x k =
    let before : (y : ℕ) → y < n → 0 < f y = λ y l. h y (omega arith) in
    let least = total-least f n before in
    let last = h n (omega arith) in
    ⊎_elim (λ q. rw q (omega arith)) (λ l. omega (arith, total_beside f n before x l)) (eq-or-lt_of_le (le_of_suc-le-suc k))

total_grows : (f : ℕ → ℕ) (n m : ℕ) → n ≤ m → total f n ≤ total f m
unfolding total
total_grows f n zero h = ⊎_elim (λ q. rw q (omega arith)) (λ l. absurd (not-suc-le-zero l)) (eq-or-lt_of_le h)
total_grows f n (suc m) h = ⊎_elim (λ q. rw q (omega arith)) (λ l. omega (arith, total_grows f n m (le_of_suc-le-suc l))) (eq-or-lt_of_le h)

total_past : (f : ℕ → ℕ) (n m x : ℕ) → n ≤ x → x < m → total f n + f x ≤ total f m
unfolding total
total_past f n zero x h k = absurd (not-suc-le-zero k)
total_past f n (suc m) x h k =
    ⊎_elim (λ q. let g = total_grows f n m (omega arith) in rw q (omega arith)) (λ l. omega (arith, total_past f n m x h l)) (eq-or-lt_of_le (le_of_suc-le-suc k))

-- a total of n over the first m places, of which each of the first n counts, leaves nothing for another
total-tight : (f : ℕ → ℕ) (n m : ℕ) → n ≤ m → total f m ≡ n → ((x : ℕ) → x < n → 0 < f x) → (x : ℕ) → x < m → 0 < f x → (x < n) × (f x ≤ 1)
total-tight f n m le whole met x k c =
    let least = total-least f n met in
    let grows = total_grows f n m le in
    let out : n ≤ x → ⊥ = λ h. omega (arith, total_past f n m x h k) in
    let inside : x < n = omega arith in
    (inside, omega (arith, total_beside f n met x inside))

-- n entries that meet all of n places meet each of them once, and nothing else
pub onto_passes : (p : List ℕ) (m : ℕ) → length p ≤ m → ((i : ℕ) → i < length p → image p i < m) → ((x : ℕ) → x < length p → 0 < count (eqb x) p) → is_permutation (length p) p ≡ true
onto_passes p m le below met = passes (length p) p refl (λ i k.
    let from = count_from (eqb (image p i)) 0 p i k (eq-eqb (image p i) (image p i) refl) in
    let counts : 0 < count (eqb (image p i)) p = omega arith in
    total-tight (λ x. count (eqb x) p) (length p) m le (total-count m p below) met (image p i) (below i k) counts)

-- ---- the inverse

module _ (n : ℕ) (p : List ℕ) (b : Bijection n p) where
  -- each site is an image
  pub preimage : (i : ℕ) → i < n → (j : ℕ) × (j < n) × (image p j ≡ i)
  preimage i k =
      let t = total-count n p (λ j m. b.below j (omega (arith, b.size))) in
      let c = total_full (λ x. count (eqb x) p) (once_at n p b) n (omega (arith, b.size)) i k in
      let r = count-place (eqb i) 0 p c in
      (r.0, omega (arith, r.1, b.size), sym (eqb-true i (image p r.0) r.2))

  -- and is one once
  pub each_once : (i : ℕ) → i < n → count (eqb i) p ≡ 1
  each_once i k =
      let r = preimage i k in
      subst (λ (x : ℕ). count (eqb x) p ≡ 1) r.2 (counted n p (permutation n p b) r.0 r.1)

  -- the inverse image of i is the place where i stands
  pub inverse_at : (i j : ℕ) → j < n → image p j ≡ i → inverse_image p i ≡ j
  unfolding inverse_image
  inverse_at i j k e =
      let m = length p in
      let size = b.size in
      let long = length-up_to m in
      let found = first_found (λ x. eqb (image p x) i) 0 (up_to m) j (omega arith) (rw (get_d_up_to m j 0 (omega arith)) (eq-eqb _ _ e)) in
      let x = get_or (up_to m) found.0 0 in
      let within = found.1 in
      let place : x ≡ found.0 = get_d_up_to m found.0 0 (omega arith) in
      rw (found.3, inverse_image) (b.once x j (omega arith) k (eqb-true (image p x) i found.2 ∙ sym e))

  pub inverse_below : (i : ℕ) → i < n → inverse_image p i < n
  inverse_below i k = let r = preimage i k in rw (inverse_at i r.0 r.1 r.2) r.1

  pub image-inverse : (i : ℕ) → i < n → image p (inverse_image p i) ≡ i
  image-inverse i k = let r = preimage i k in rw (inverse_at i r.0 r.1 r.2) r.2

  pub inverse-image : (i : ℕ) → i < n → inverse_image p (image p i) ≡ i
  inverse-image i k = inverse_at (image p i) i k refl

-- ---- the identity, inverses, products

-- the places of a list that is made of others
pub image-map : (f : ℕ → ℕ) (l : List ℕ) (i : ℕ) → i < length l → image (map f l) i ≡ f (image l i)
image-map f [] i k = absurd (not-suc-le-zero k)
image-map f (a ∷ l) zero k = refl
image-map f (a ∷ l) (suc i) k = image-map f l i (le_of_suc-le-suc k)

pub image-sites : (f : ℕ → ℕ) (n i : ℕ) → i < n → image (map f (up_to n)) i ≡ f i
image-sites f n i k =
    let long = length-up_to n in
    let place : image (up_to n) i ≡ i = get_d_up_to n i 0 k in
    image-map f (up_to n) i (omega arith) ∙ ap f place

pub identity_bijection : (n : ℕ) → Bijection n (up_to n)
identity_bijection n = record {
  size = length-up_to n;
  below = λ i k. omega (arith, get_d_up_to n i 0 k);
  once = λ i j k m e. omega (arith, get_d_up_to n i 0 k, get_d_up_to n j 0 m);
}

pub inverse_bijection : (n : ℕ) (p : List ℕ) → Bijection n p → Bijection n (map (inverse_image p) (up_to n))
inverse_bijection n p b = record {
  size = length-map (up_to n) (inverse_image p) ∙ length-up_to n;
  below = λ i k. rw (image-sites (inverse_image p) n i k) (inverse_below n p b i k);
  once = λ i j k m e.
      sym (image-inverse n p b i k) ∙ ap (image p) (sym (image-sites (inverse_image p) n i k) ∙ e ∙ image-sites (inverse_image p) n j m) ∙ image-inverse n p b j m;
}

pub product_bijection : (n : ℕ) (p q : List ℕ) → Bijection n p → Bijection n q → Bijection n (after p q)
product_bijection n p q b c = record {
  size = length-map q (image p) ∙ c.size;
  below = λ i k. rw (image-map (image p) q i (omega (arith, c.size))) (b.below (image q i) (c.below i k));
  once = λ i j k m e.
      c.once i j k m
      (b.once (image q i) (image q j) (c.below i k) (c.below j m)
      (sym (image-map (image p) q i (omega (arith, c.size))) ∙ e ∙ image-map (image p) q j (omega (arith, c.size))));
}

-- ---- the same of the test

module _ (n : ℕ) (p : List ℕ) (t : T (is_permutation n p)) where
  bijection_of : Bijection n p
  bijection_of = bijection n p (T→true (is_permutation n p) t)

  pub image_of_inverse : (i : ℕ) → i < n → image p (inverse_image p i) ≡ i
  image_of_inverse = image-inverse n p bijection_of

  pub inverse_of_image : (i : ℕ) → i < n → inverse_image p (image p i) ≡ i
  inverse_of_image = inverse-image n p bijection_of

  pub inverse-permutes : T (is_permutation n (map (inverse_image p) (up_to n)))
  inverse-permutes = true→T (permutation n _ (inverse_bijection n p bijection_of))

  pub product_permutes : (q : List ℕ) → T (is_permutation n q) → T (is_permutation n (after p q))
  product_permutes q u = true→T (permutation n _ (product_bijection n p q bijection_of (bijection n q (T→true (is_permutation n q) u))))

pub identity-permutes : (n : ℕ) → T (is_permutation n (up_to n))
identity-permutes n = true→T (permutation n (up_to n) (identity_bijection n))
