-- How many orbits there are: the sites that are their own label.
use Prim.Native.Nat.{ℕ, suc, ◌+◌}
use mathlib.Core.Path.{◌≡◌, refl, sym, ap, ◌∙◌, subst}
use mathlib.Core.Bool.{Bool, true, false, cond}
use mathlib.Core.List.{List, [], ◌∷◌, ◌++◌, append_assoc}
use native.Mathlib.Omega.{arith}
use native.Mathlib.Numerals.{add-one}
use lib.ListN.{length, get_or, length-append}
use lib.Seq.{get_or-append_seam}
use lib.Dec.{eqb}
use Rattle.std.specs.List.{filter, enumerate_from}
use Rattle.definitions.specs.Lists.{those, up_from}
use Rattle.definitions.specs.Orbit.{orbits}
use Rattle.symmetrize_standardize.specs.Stages.{own_labels}

abbrev own_label : List ℕ → ℕ → Bool
own_label labels j = eqb (get_or labels j 0) j

-- a place with its label
abbrev is_own : ℕ × ℕ → Bool
is_own p = eqb p.1 p.0

step :
    (b c : Bool) → b ≡ c → (p : ℕ × ℕ) (j : ℕ) (ps : List (ℕ × ℕ)) (js : List ℕ) → length ps ≡ length js →
    length (cond b (p ∷ ps) ps) ≡ length {A = ℕ} (elim c as (λ (x : Bool). List ℕ) [ true ↦ j ∷ js | false ↦ js ])
step true c e p j ps js h = subst (λ c. length (p ∷ ps) ≡ length {A = ℕ} (elim c as (λ (x : Bool). List ℕ) [ true ↦ j ∷ js | false ↦ js ])) e (ap suc h)
step false c e p j ps js h = subst (λ c. length ps ≡ length {A = ℕ} (elim c as (λ (x : Bool). List ℕ) [ true ↦ j ∷ js | false ↦ js ])) e h

counted_from :
    (pre xs : List ℕ) (n : ℕ) → n ≡ length pre →
    length (filter is_own (enumerate_from n xs)) ≡ length (those (own_label (pre ++ xs)) (up_from n (length xs)))
unfolding those up_from
counted_from pre [] n h = refl
counted_from pre (x ∷ xs) n h =
    let here : eqb x n ≡ own_label (pre ++ x ∷ xs) n =
    sym (ap (λ y. eqb y n) (ap (λ k. get_or (pre ++ x ∷ xs) k 0) h ∙ get_or-append_seam pre x xs 0)) in
    let longer : n + 1 ≡ length (pre ++ x ∷ []) = omega (arith, h, length-append pre (x ∷ [])) in
    let later = counted_from (pre ++ x ∷ []) xs (n + 1) longer in
    step (eqb x n) (own_label (pre ++ x ∷ xs) n) here (n, x) n
    (filter is_own (enumerate_from (n + 1) xs)) (those (own_label (pre ++ x ∷ xs)) (up_from (suc n) (length xs)))
    (later ∙ (λ i. length (those (own_label (append_assoc pre (x ∷ []) xs i)) (up_from (add-one n i) (length xs)))))

pub counted : (labels : List ℕ) → length (own_labels labels) ≡ length (orbits labels)
unfolding orbits
counted labels = counted_from [] labels 0 refl
