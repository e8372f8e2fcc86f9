-- Lists laid one behind the other, and taken apart again; what is written to the front of a lent list, and read there.
use Prim.Native.Nat.{ℕ, suc, ◌-◌, ◌*◌, ◌≤◌}
use mathlib.Core.Path.{◌≡◌, refl, sym, ap, ◌∙◌}
use mathlib.Core.Bool.{Bool, false}
use mathlib.Core.List.{List, [], ◌∷◌, ◌++◌, map, append_assoc, Memᴰ}
use native.Mathlib.Omega.{arith}
use native.Mathlib.Nat.{suc-mul, mul-le-mul}
use lib.ListN.{length, take, replicate, length-append, length-map}
use lib.Seq.{take_at, drop_at}
use mir.Syntax.{w64}
use mir.Val.{Fits}
use Rattle.definitions.specs.Lists.{any, each, Each, up_from}
use Rattle.definitions.specs.Refusal.{padded}
use Rattle.definitions.specs.Permutation.{permutation_at}
use Rattle.definitions.specs.Lent.{permutations_of, position_from, cells_of}
use Rattle.definitions.specs.declared.Position.{Position}
use Rattle.laws.specs.Lists.{any_none}

-- ---- a test that no element passes

pub none_pass : {A : Type 0} (t : A → Bool) (l : List A) → Each (λ a. t a ≡ false) l → any t l ≡ false
unfolding any Each
none_pass t [] h = refl
none_pass t (a ∷ l) h = any_none t a l h.0 (none_pass t l h.1)

-- ---- parts of one length

-- the first part behind a list of a parts
first_part : (n a : ℕ) (before p rest : List ℕ) → length before ≡ a * n → length p ≡ n → permutation_at n (before ++ (p ++ rest)) a ≡ p
first_part n a before p rest e f = ap (take n) (drop_at before (p ++ rest) (a * n) e) ∙ take_at p rest n f

parts_from :
    (n a : ℕ) (before : List ℕ) (ps : List (List ℕ)) → length before ≡ a * n → ((p : List ℕ) → Memᴰ p ps → length p ≡ n) →
    map (permutation_at n (before ++ each (λ p. p) ps)) (up_from a (length ps)) ≡ ps
unfolding each up_from
parts_from n a before [] e h = refl
parts_from n a before (p ∷ ps) e h =
    let rest = each (λ (q : List ℕ). q) ps in
    let size : length p ≡ n = h p (Memᴰ.head refl) in
    let longer : length (before ++ p) ≡ suc a * n = length-append before p ∙ omega (arith, suc-mul a n) in
    ap (λ (l : List ℕ). l ∷ map (permutation_at n (before ++ (p ++ rest))) (up_from (suc a) (length ps))) (first_part n a before p rest e size)
    ∙ ap (λ (l : List ℕ). p ∷ map (permutation_at n l) (up_from (suc a) (length ps))) (sym (append_assoc before p rest))
    ∙ ap (λ (l : List (List ℕ)). p ∷ l) (parts_from n (suc a) (before ++ p) ps longer (λ q m. h q (Memᴰ.tail m)))

-- permutations of n sites, laid one behind the other, are these permutations
pub parts_are :
    (n : ℕ) (ps : List (List ℕ)) → ((p : List ℕ) → Memᴰ p ps → length p ≡ n) →
    permutations_of n (length ps) (each (λ p. p) ps) ≡ ps
parts_are n ps h = let e : 0 ≡ 0 * n = omega arith in parts_from n 0 [] ps e h

pub length_parts : (n : ℕ) (ps : List (List ℕ)) → ((p : List ℕ) → Memᴰ p ps → length p ≡ n) → length (each (λ p. p) ps) ≡ length ps * n
unfolding each
length_parts n [] h = omega arith
length_parts n (p ∷ ps) h =
    omega (arith, length-append p (each (λ (q : List ℕ). q) ps), h p (Memᴰ.head refl), length_parts n ps (λ q m. h q (Memᴰ.tail m)))

-- ---- a lent list

-- what was written to the front is read there
pub front_of : {A : Type 0} (z : A) (a l : List A) (room n : ℕ) → l ≡ padded z a room → length a ≡ n → take n l ≡ a
front_of z a l room n e h = ap (take n) e ∙ take_at a (replicate (room - length a) z) n h

-- positions that were held as cells
pub cells_back : (ps : List Position) → map position_from (map cells_of ps) ≡ ps
cells_back [] = refl
cells_back (p ∷ ps) = ap (λ l. p ∷ l) (cells_back ps)

pub length-cells : (ps : List Position) → length (map cells_of ps) ≡ length ps
length-cells ps = length-map ps cells_of

-- numbers of entries are words
pub listed-word : (n m : ℕ) → n ≤ 256 → m ≤ 64 → Fits w64 (n * m)
listed-word n m p q = omega (arith, mul-le-mul p q)

pub fits_kept : {a b c d : ℕ} → a ≡ b → b ≤ c → d ≡ c → a ≤ d
fits_kept {a} {b} {c} {d} e h k = omega arith
