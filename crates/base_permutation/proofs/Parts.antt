-- Permutations that stand one behind the other in one list, tested in turn: what is asked of all is asked of those not
-- yet tested.
use Rattle.std.proofs.Common.{ℕ, ◌+◌, ◌-◌, ◌*◌, ◌/◌, ◌≤◌, ◌<◌, ◌≡◌, refl, sym, ap, ◌∙◌, Bool, true, false, List, length, take, drop, arith, mul-le-mul_right, length-take, length-drop}
use Rattle.std.proofs.Math.Nat.{div-mul-le_self, mul_comm}
use borrow.Author.Tests.{ne_eqb}
use Rattle.definitions.specs.Lists.{all, up_to}
use Rattle.definitions.specs.Permutation.{is_permutation, permutation_at}
use Rattle.laws.specs.Counting.{all_of, all_at, length-up_to}
use Rattle.laws.specs.Lists.{up_to_at, below_up_to, all_pass, all_fail, all_end, next_part, part_of}
use Rattle.laws.specs.Tests.{never}

abbrev pub is_nth : ℕ → List ℕ → ℕ → Bool
is_nth n images o = is_permutation n (permutation_at n images o)

-- the part from `at` on is the permutation o
pub part_is :
    (images : List ℕ) (n o at : ℕ) → at ≡ o * n → at + n ≤ length images →
    is_permutation (length (take (at + n - at) (drop at images))) (take (at + n - at) (drop at images)) ≡ is_nth n images o
part_is images n o at e h =
    let l : length (permutation_at n images o) ≡ n = simp (length-take, length-drop) (omega (arith, e)) in
    rw (part_of images n o at e, l)

-- a list of another length is none
other_length : (n : ℕ) (p : List ℕ) → (length p ≡ n → ⊥) → is_permutation n p ≡ false
unfolding is_permutation
other_length n p f = rw (ne_eqb (length p) n f)

-- the list ends before the permutation o does
pub cut_short : (images : List ℕ) (n o at : ℕ) → at ≡ o * n → length images - at < n → is_nth n images o ≡ false
cut_short images n o at e h =
    other_length n (permutation_at n images o)
    (λ q. omega (arith, q, length-take n (drop (o * n) images), length-drop (o * n) images))

module _ (images : List ℕ) (n k : ℕ) where
  -- the permutations before o pass
  abbrev pub PassedTo : ℕ → Type 0
  PassedTo o = all (is_nth n images) (up_to k) ≡ all (is_nth n images) (drop o (up_to k))

  pub one_passes : (o : ℕ) → PassedTo o → o < k → is_nth n images o ≡ true → PassedTo (o + 1)
  one_passes o u h e = u ∙ all_pass (is_nth n images) 0 (up_to k) o (below_up_to k o h) (rw (up_to_at k o h) e)

  pub one_fails : (o : ℕ) → PassedTo o → o < k → is_nth n images o ≡ false → false ≡ all (is_nth n images) (up_to k)
  one_fails o u h e = sym (u ∙ all_fail (is_nth n images) 0 (up_to k) o (below_up_to k o h) (rw (up_to_at k o h) e))

  pub all_passed : (o : ℕ) → PassedTo o → k ≤ o → true ≡ all (is_nth n images) (up_to k)
  all_passed o u h = all_end (is_nth n images) (up_to k) o (omega (arith, length-up_to k)) ∙ sym u

-- permutations of no sites
pub of_no_sites : (images : List ℕ) (n k : ℕ) → n ≡ 0 → true ≡ all (is_nth n images) (up_to k)
unfolding is_permutation all
of_no_sites images n k e = rw e (sym (all_of (is_nth 0 images) 0 (up_to k) (λ o h. refl)))

-- permutation o of k stands within a list that has room for k of them
pub room_for : (m n k o : ℕ) → k ≤ m / n → o < k → o * n + n ≤ m
room_for m n k o h l =
    let up : (o + 1) * n ≤ m / n * n = mul-le-mul_right n (omega arith) in
    omega (arith, next_part o (o * n) n refl, div-mul-le_self m n)

-- the first permutation that has no room in the list is none
pub too_few : (images : List ℕ) (n k : ℕ) → (n ≡ 0 → ⊥) → length images / n < k → false ≡ all (is_nth n images) (up_to k)
too_few images n k z h = by (all (is_nth n images) (up_to k)) refl
  where
    by : (b : Bool) → all (is_nth n images) (up_to k) ≡ b → false ≡ b
    by false e = refl
    by true e =
        let m : ℕ = length images / n in
        let passes = all_at (is_nth n images) 0 (up_to k) e m (below_up_to k m h) in
        let short : length images - m * n < n = omega (arith, mul_comm n m) in
        absurd (never (sym (cut_short images n m (m * n) refl short) ∙ ap (is_nth n images) (sym (up_to_at k m h)) ∙ passes))
