-- Operands of n bytes are read back.
use Prim.Native.Nat.{ℕ, zero, suc, ◌-◌, ◌/◌, ◌%◌, ◌^◌, ◌≤◌, ◌<◌}
use Rattle.std.proofs.Common.{pow-suc, subst, ◌∙◌, ltb→lt, lt→ltb, lt-ltb, le-ltb, ltb-true, ltb-false}
use native.Mathlib.Omega.{arith}
use Rattle.std.proofs.Math.Path.{◌≡◌, refl, sym, ap}
use Rattle.std.specs.Prelude.{Bool, ltb, ℤ, pos, negsuc}
use Rattle.std.proofs.Math.Bool.{true, false}
use mathlib.Core.List.{List, [], ◌∷◌, ◌++◌}
use Rattle.std.proofs.Math.Option.{some, none-ne-some}
use Rattle.std.proofs.Math.Dec.{T}
use Rattle.std.proofs.Math.Pow.{are_bytes}
use Rattle.definitions.specs.Job.{unsigned, signed, bytes, complement, signed_bytes}
use Rattle.laws.specs.Tests.{both_pass}
use Rattle.job_laws.specs.Reader.{Inverse, same_read, mapped_forth, mapped_back, place, number, mirror, from_complement, integer}

-- ---- an unsigned operand of n bytes

number_forth : (n v : ℕ) (k : List ℕ) → v < 256 ^ n → number n (bytes n v ++ k) ≡ some (v, k)
unfolding number bytes
number_forth zero v k h = ap (λ (x : ℕ). some (x, k)) (omega arith)
number_forth (suc n) v k h =
    let lower : v / 256 < 256 ^ n = omega (arith, pow-suc 256 n) in
    let whole : place (v % 256) (v / 256) ≡ v = omega arith in
    mapped_forth (place (v % 256)) (number n) (number_forth n (v / 256) k lower) ∙ ap (λ (x : ℕ). some (x, k)) whole

low_and_rest : (n b w v : ℕ) → b < 256 → w < 256 ^ n → place b w ≡ v → (v < 256 ^ suc n) × (v % 256 ≡ b) × (v / 256 ≡ w)
low_and_rest n b w v hb hw e = (omega (arith, pow-suc 256 n), omega arith, omega arith)

number_back : (n : ℕ) (bs : List ℕ) (v : ℕ) (k : List ℕ) → T (are_bytes bs) → number n bs ≡ some (v, k) → (v < 256 ^ n) × (bytes n v ++ k ≡ bs)
unfolding number bytes
number_back zero bs v k t e = (omega (arith, (same_read e).0), sym (same_read e).1)
number_back (suc n) [] v k t e = absurd (none-ne-some (v, k) e)
number_back (suc n) (b ∷ bs) v k t e =
    let (w, value, read) = mapped_back (place b) (number n) bs e in
    let small = both_pass (ltb b 256) (are_bytes bs) t in
    let rest = number_back n bs w k small.1 read in
    let parts = low_and_rest n b w v (ltb→lt b 256 small.0) rest.0 value in
    (parts.0, rw (parts.1, parts.2, rest.1))

pub number_inverse : (n : ℕ) → Inverse [] (unsigned n) (bytes n) (number n)
number_inverse n =
    record {
      forth = λ v k h c. number_forth n v k (ltb→lt v (256 ^ n) h);
      back = λ bs v k t e. let r = number_back n bs v k t e in (lt→ltb v (256 ^ n) r.0, r.1);
    }

-- ---- a signed operand of n bytes, from two's complement

complement_fits : (n : ℕ) (z : ℤ) → T (signed n z) → complement n z < 256 ^ n
complement_fits n (pos a) h = omega (arith, ltb→lt a (256 ^ n / 2) h)
complement_fits n (negsuc a) h = omega (arith, ltb→lt a (256 ^ n / 2) h)

complement_back : (n : ℕ) (z : ℤ) → T (signed n z) → from_complement n (complement n z) ≡ z
complement_back n (pos a) h = rw (lt-ltb a (256 ^ n / 2) (ltb→lt a (256 ^ n / 2) h))
complement_back n (negsuc a) h =
    let l = ltb→lt a (256 ^ n / 2) h in
    let high : 256 ^ n / 2 ≤ 256 ^ n - suc a = omega arith in
    let same : mirror n (256 ^ n - suc a) ≡ a = omega arith in
    rw (le-ltb (256 ^ n - suc a) (256 ^ n / 2) high, same)

-- 256ⁿ is even, so that as many values are below 0 as are not
integer_value : (n u : ℕ) → u < 256 ^ suc n → T (signed (suc n) (from_complement (suc n) u)) × (complement (suc n) (from_complement (suc n) u) ≡ u)
integer_value n u h = go (ltb u (256 ^ suc n / 2)) refl
  where
    go : (t : Bool) → ltb u (256 ^ suc n / 2) ≡ t → T (signed (suc n) (from_complement (suc n) u)) × (complement (suc n) (from_complement (suc n) u) ≡ u)
    go true e = rw e (lt→ltb u (256 ^ suc n / 2) (ltb-true u (256 ^ suc n / 2) e), refl)
    go false e =
        let l = ltb-false u (256 ^ suc n / 2) e in
        rw e (lt→ltb (mirror (suc n) u) (256 ^ suc n / 2) (omega (arith, pow-suc 256 n)), omega arith)

pub integer-inverse : (n : ℕ) → Inverse [] (signed (suc n)) (signed_bytes (suc n)) (integer (suc n))
integer-inverse n =
    record {
      forth = λ z k h c. mapped_forth (from_complement (suc n)) (number (suc n)) (number_forth (suc n) (complement (suc n) z) k (complement_fits (suc n) z h)) ∙ ap (λ (x : ℤ). some (x, k)) (complement_back (suc n) z h);
      back = λ bs z k t e.
          let (u, value, read) = mapped_back (from_complement (suc n)) (number (suc n)) bs e in
          let (small, print) = number_back (suc n) bs u k t read in
          let (holds, same) = integer_value n u small in
          (subst (λ (x : ℤ). T (signed (suc n) x)) value holds, ap (λ (x : ℤ). signed_bytes (suc n) x ++ k) (sym value) ∙ ap (λ (x : ℕ). bytes (suc n) x ++ k) same ∙ print);
    }
