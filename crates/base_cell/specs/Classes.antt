-- Whether sites are joined, decided by classes. They are found by quick-find: each site has a class, and each image
-- merges two. That two sites have one class just if they are joined stands in proofs/.
use Prim.Native.Nat.{ℕ, suc, ◌<◌}
use Rattle.std.specs.Prelude.{◌≡◌, refl, Bool, true, false, ◌↔◌, length, eqb}
use Rattle.std.proofs.Math.Path.{sym}
use Rattle.std.proofs.Common.{◌∙◌, eqb-true, eq-eqb}
use mathlib.Core.List.{List, [], ◌∷◌, map}
use Rattle.std.proofs.Math.ListN.{get_or}
use Rattle.std.proofs.lemmas.List.{length-map}
use Rattle.definitions.specs.Lists.{up_from, up_to}
use Rattle.definitions.specs.Orbit.{Joined}
use Rattle.laws.specs.Lists.{map_at}
use Rattle.base_cell.specs.Joined.{joined_trans, joined_sym}

-- b for the class a, any other class stays
unfoldable pub replaced : ℕ → ℕ → ℕ → ℕ
replaced a b c = elim (eqb c a) [ true ↦ b | false ↦ c ]

-- the class a becomes part of b
unfoldable pub merge : ℕ → ℕ → List ℕ → List ℕ
unfolding replaced
merge a b cs = elim (eqb a b) [ true ↦ cs | false ↦ map (replaced a b) cs ]

-- the class of site i becomes part of that of site j
unfoldable pub join : ℕ → ℕ → List ℕ → List ℕ
unfolding merge
join i j cs = merge (get_or cs i 0) (get_or cs j 0) cs

-- the sites from i on joined with their images, which the list gives
unfoldable pub along : ℕ → List ℕ → List ℕ → List ℕ
unfolding join
along i [] cs = cs
along i (j ∷ p) cs = along (suc i) p (join i j cs)

unfoldable pub along_all : List (List ℕ) → List ℕ → List ℕ
unfolding along
along_all [] cs = cs
along_all (p ∷ ps) cs = along_all ps (along 0 p cs)

-- the classes of n sites under the permutations
unfoldable pub classes : ℕ → List (List ℕ) → List ℕ
unfolding along_all up_from
classes n ps = along_all ps (up_to n)

abbrev pub SameClass : List ℕ → ℕ → ℕ → Type 0
SameClass cs i j = get_or cs i 0 ≡ get_or cs j 0

-- ---- one merge

pub replaced_is : (a b c : ℕ) → c ≡ a → replaced a b c ≡ b
unfolding replaced
replaced_is a b c e = rw (eq-eqb c a e, replaced)

pub replaced_not : (a b c : ℕ) → eqb c a ≡ false → replaced a b c ≡ c
unfolding replaced
replaced_not a b c e = rw (e, replaced)

-- a class that is replaced by itself
replaced-same : (a b c : ℕ) → a ≡ b → replaced a b c ≡ c
replaced-same a b c e = go (eqb c a) refl
  where
    go : (t : Bool) → eqb c a ≡ t → replaced a b c ≡ c
    go true q = replaced_is a b c (eqb-true c a q) ∙ sym e ∙ sym (eqb-true c a q)
    go false q = replaced_not a b c q

-- the class merged into is not changed
pub replaced_into : (a b : ℕ) → replaced a b b ≡ b
replaced_into a b = go (eqb b a) refl
  where
    go : (t : Bool) → eqb b a ≡ t → replaced a b b ≡ b
    go true q = replaced_is a b b (eqb-true b a q)
    go false q = replaced_not a b b q

length-merge : (a b : ℕ) (cs : List ℕ) → length (merge a b cs) ≡ length cs
unfolding merge
length-merge a b cs = go (eqb a b)
  where
    go : (t : Bool) → length {A = ℕ} (elim t as (λ u. List ℕ) [ true ↦ cs | false ↦ map (replaced a b) cs ]) ≡ length cs
    go true = refl
    go false = length-map cs (replaced a b)

pub merge_at : (a b : ℕ) (cs : List ℕ) (k : ℕ) → k < length cs → get_or (merge a b cs) k 0 ≡ replaced a b (get_or cs k 0)
unfolding merge
merge_at a b cs k h = go (eqb a b) refl
  where
    go : (t : Bool) → eqb a b ≡ t → get_or {A = ℕ} (elim t as (λ u. List ℕ) [ true ↦ cs | false ↦ map (replaced a b) cs ]) k 0 ≡ replaced a b (get_or cs k 0)
    go true e = sym (replaced-same a b (get_or cs k 0) (eqb-true a b e))
    go false e = map_at (replaced a b) cs k 0 0 h

-- ---- two sites joined

pub length-join : (i j : ℕ) (cs : List ℕ) → length (join i j cs) ≡ length cs
unfolding join
length-join i j cs = simp length-merge

pub join_joins : (i j : ℕ) (cs : List ℕ) → i < length cs → j < length cs → SameClass (join i j cs) i j
unfolding join
join_joins i j cs hi hj =
    merge_at (get_or cs i 0) (get_or cs j 0) cs i hi ∙ replaced_is (get_or cs i 0) (get_or cs j 0) (get_or cs i 0) refl
    ∙ sym (replaced_into (get_or cs i 0) (get_or cs j 0)) ∙ sym (merge_at (get_or cs i 0) (get_or cs j 0) cs j hj)

pub length-along : (i : ℕ) (p cs : List ℕ) → length (along i p cs) ≡ length cs
unfolding along
length-along i [] cs = refl
length-along i (j ∷ p) cs = length-along (suc i) p (join i j cs) ∙ length-join i j cs

-- ---- sound: sites of one class are joined

-- f is a class for each site, and sites of one class are joined: so they are when the class of a becomes part of that
-- of b
module _ (n : ℕ) (all : List (List ℕ)) (f : ℕ → ℕ) (sound : (i j : ℕ) → i < n → j < n → f i ≡ f j → Joined all i j)
    (a b : ℕ) (ha : a < n) (hb : b < n) (ab : Joined all a b) where
  replaced_cases :
      (i j : ℕ) → i < n → j < n → (t u : Bool) → eqb (f i) (f a) ≡ t → eqb (f j) (f a) ≡ u →
      replaced (f a) (f b) (f i) ≡ replaced (f a) (f b) (f j) → Joined all i j
  replaced_cases i j hi hj true true p q e = sound i j hi hj (eqb-true (f i) (f a) p ∙ sym (eqb-true (f j) (f a) q))
  replaced_cases i j hi hj true false p q e =
      joined_trans
      (sound i a hi ha (eqb-true (f i) (f a) p))
      (joined_trans
      ab
      (sound b j hb hj (sym (replaced_is (f a) (f b) (f i) (eqb-true (f i) (f a) p)) ∙ e ∙ replaced_not (f a) (f b) (f j) q)))
  replaced_cases i j hi hj false true p q e =
      joined_trans
      (sound i b hi hb (sym (replaced_not (f a) (f b) (f i) p) ∙ e ∙ replaced_is (f a) (f b) (f j) (eqb-true (f j) (f a) q)))
      (joined_trans (joined_sym ab) (sound a j ha hj (sym (eqb-true (f j) (f a) q))))
  replaced_cases i j hi hj false false p q e =
      sound i j hi hj (sym (replaced_not (f a) (f b) (f i) p) ∙ e ∙ replaced_not (f a) (f b) (f j) q)

  pub replaced_sound :
      (i j : ℕ) → i < n → j < n → replaced (f a) (f b) (f i) ≡ replaced (f a) (f b) (f j) → Joined all i j
  replaced_sound i j hi hj = replaced_cases i j hi hj (eqb (f i) (f a)) (eqb (f j) (f a)) refl refl

module _ (n : ℕ) (all : List (List ℕ)) where
  pub record Sound (cs : List ℕ) : Type 0 where
    pub size : length cs ≡ n
    pub joined : (i j : ℕ) → i < n → j < n → SameClass cs i j → Joined all i j

-- the classes cs of n sites: two of them have one class just if they are joined
abbrev pub Decides : ℕ → List (List ℕ) → List ℕ → Type 0
Decides n ps cs = (i j : ℕ) → i < n → j < n → SameClass cs i j ↔ Joined ps i j
