-- The vectors f with each fᵢ from 0 below dᵢ: which stands at the place k.
use Rattle.std.specs.Prelude.{ℕ, zero, suc, ◌+◌, ◌*◌, ◌/◌, ◌%◌, ◌<◌, ◌≡◌, length, ℤ, pos}
use Rattle.std.proofs.Common.{sym, ◌∙◌, mod-lt, div-add-mod', div-lt_iff_lt-mul, mul_comm}
use Rattle.std.proofs.Math.Path.{ap}
use mathlib.Core.List.{List, [], ◌∷◌, map}
use Rattle.std.proofs.Math.Nat.{div-div-eq-div-mul}
use native.Mathlib.Omega.{arith}
use Rattle.std.proofs.Math.ListN.{get_or, length-map}
use Rattle.definitions.specs.Lists.{each, up_to}
use Rattle.definitions.specs.Snf.{box}
use Rattle.laws.specs.Lists.{length-up_from, up_to_at, below_up_to, map_at, length-each, each_at, place_below}

-- the place of (i, j, k) in the box of a, b, c
abbrev pub place_of : ℕ → ℕ → ℕ → ℕ → ℕ → ℕ
place_of b c i j k = i * (b * c) + (j * c + k)

abbrev vector : ℕ → ℕ → ℕ → List ℤ
vector i j k = pos i ∷ pos j ∷ pos k ∷ []

-- a product with something below it has no factor 0
pub positive : (a b c n : ℕ) → n < a * b * c → 0 < c
positive a b zero n h = omega arith
positive a b (suc c) n h = omega arith

module _ (a b c : ℕ) where
  line : ℕ → ℕ → List (List ℤ)
  line i j = map (vector i j) (up_to c)

  plane : ℕ → List (List ℤ)
  plane i = each (line i) (up_to b)

  length_line : (i j : ℕ) → length (line i j) ≡ c
  unfolding line
  length_line i j = length-map (up_to c) (vector i j) ∙ length-up_from 0 c

  length_plane : (i : ℕ) → length (plane i) ≡ b * c
  unfolding plane
  length_plane i = length-each (line i) c (length_line i) (up_to b) ∙ ap (λ n. n * c) (length-up_from 0 b)

  pub length-box : length (box a b c) ≡ a * b * c
  unfolding box plane line
  length-box =
      let o : a * (b * c) ≡ a * b * c = omega arith in
      length-each plane (b * c) length_plane (up_to a) ∙ ap (λ n. n * (b * c)) (length-up_from 0 a) ∙ o

  pub box-place : (i j k : ℕ) → i < a → j < b → k < c → get_or (box a b c) (place_of b c i j k) [] ≡ vector i j k
  unfolding box plane line
  box-place i j k p q r =
      each_at plane (b * c) length_plane (up_to a) i (j * c + k) 0 [] (below_up_to a i p) (place_below b c j k q r)
      ∙ ap (λ n. get_or (plane n) (j * c + k) []) (up_to_at a i p)
      ∙ each_at (line i) c (length_line i) (up_to b) j k 0 [] (below_up_to b j q) r
      ∙ ap (λ n. get_or (line i n) k []) (up_to_at b j q)
      ∙ map_at (vector i j) (up_to c) k 0 [] (below_up_to c k r)
      ∙ ap (vector i j) (up_to_at c k r)

  pub place_of_below : (i j k : ℕ) → i < a → j < b → k < c → place_of b c i j k < a * b * c
  place_of_below i j k p q r = omega (arith, place_below a (b * c) i (j * c + k) p (place_below b c j k q r))

  -- the place n is that of (n / (b c), n / c mod b, n mod c)
  pub box_below : (n : ℕ) → n < a * b * c → (n / (b * c) < a) × (n / c % b < b) × (n % c < c)
  box_below n h =
      let o : n < a * 1 * (b * c) = omega arith in
      let w : n < a * (b * c) = omega arith in
      let v : n < a * c * b = omega arith in
      ((div-lt_iff_lt-mul (positive a 1 (b * c) n o)).1 w, mod-lt (n / c) (positive a c b n v), mod-lt n (positive a b c n h))

  pub box_back : (n : ℕ) → n ≡ place_of b c (n / (b * c)) (n / c % b) (n % c)
  box_back n =
      let e : n / c / b ≡ n / (b * c) = div-div-eq-div-mul n c b ∙ ap (λ m. n / m) (mul_comm c b) in
      let o : n ≡ (n / c / b * b + n / c % b) * c + n % c = sym (div-add-mod' n c) ∙ ap (λ m. m * c + n % c) (sym (div-add-mod' (n / c) b)) in
      let p : (n / c / b * b + n / c % b) * c + n % c ≡ place_of b c (n / c / b) (n / c % b) (n % c) = omega arith in
      o ∙ p ∙ ap (λ m. place_of b c m (n / c % b) (n % c)) e

  pub box_at : (n : ℕ) → n < a * b * c → get_or (box a b c) n [] ≡ pos (n / (b * c)) ∷ pos (n / c % b) ∷ pos (n % c) ∷ []
  box_at n h =
      let (x, y, z) = box_below n h in
      ap (λ m. get_or (box a b c) m []) (box_back n) ∙ box-place (n / (b * c)) (n / c % b) (n % c) x y z
