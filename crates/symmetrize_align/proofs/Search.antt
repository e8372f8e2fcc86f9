-- The search from the last place down, and what it finds in the transformed rotations.
use Prim.Native.Nat.{ℕ, zero, suc, ◌+◌, ◌-◌, ◌<◌}
use mathlib.Core.Path.{◌≡◌, refl, sym, ap, subst, ◌∙◌}
use mathlib.Core.Bool.{Bool, true, false}
use mathlib.Core.List.{List, [], ◌∷◌, ◌++◌, map, reverse, reverse-append}
use mathlib.Core.Option.{Option, none, some}
use mathlib.Core.Logic.{⊎_elim}
use denote.Param.Members.{Mut, Called}
use Rattle.std.specs.Prelude.{Option as Found, Some, None, IfSome, IsSomeAnd, IsTrue, MatchOption, Ok, Err}
use Rattle.std.specs.Iterator.Runs.{Run, ItemsMapToReversed, CallKeepsClosure, AllItemsGive, IsFirstToGive}
use Rattle.std.specs.Option.{ok_or, option_map}
use Rattle.definitions.specs.declared.Refusal.{Refusal}
use native.Mathlib.Omega.{arith}
use native.Mathlib.Nat.{not-suc-le-zero, le_of_suc-le-suc, eq-or-lt_of_le}
use lib.ListN.{length, get_or, length-map}
use Rattle.definitions.specs.Lists.{first, up_from, up_to}
use Rattle.definitions.specs.Matrix.{Matrix}
use Rattle.definitions.specs.Transformation.{same_matrix, transform_rotation, operation_for, is_none}
use Rattle.laws.specs.Lists.{map_at}
use Rattle.symmetrize_align.specs.Aligning.{last_below, last_of, found}

-- ---- 0 to k, from the last down

up_from_snoc : (a k : ℕ) → up_from a (suc k) ≡ up_from a k ++ ((a + k) ∷ [])
unfolding up_from
up_from_snoc a zero = let e : a + 0 ≡ a = omega arith in rw e
up_from_snoc a (suc k) =
    let e : suc a + k ≡ a + suc k = omega arith in
    ap (λ l. a ∷ l) (up_from_snoc (suc a) k ∙ ap (λ x. up_from (suc a) k ++ (x ∷ [])) e)

down : (k : ℕ) → reverse (up_to (suc k)) ≡ k ∷ reverse (up_to k)
down k =
    let e : 0 + k ≡ k = omega arith in
    ap reverse (up_from_snoc 0 k) ∙ reverse-append (up_to k) ((0 + k) ∷ []) ∙ ap (λ x. x ∷ reverse (up_to k)) e

module _ (p : ℕ → Bool) (k : ℕ) where
  first_hit : p k ≡ true → first p (reverse (up_to (suc k))) ≡ some k
  unfolding first
  first_hit e = rw (down k, first, e)

  first_miss : p k ≡ false → first p (reverse (up_to (suc k))) ≡ first p (reverse (up_to k))
  unfolding first
  first_miss e = rw (down k, first, e)

-- tests that agree below k find the same
same_first :
    (p q : ℕ → Bool) (k : ℕ) → ((j : ℕ) → j < k → p j ≡ q j) →
    first p (reverse (up_to k)) ≡ first q (reverse (up_to k))
unfolding first up_from
same_first p q zero h = refl
same_first p q (suc k) h = by (p k) refl (same_first p q k (λ j l. h j (omega arith)))
  where
    last : p k ≡ q k
    last = h k (omega arith)

    by :
        (b : Bool) → p k ≡ b → first p (reverse (up_to k)) ≡ first q (reverse (up_to k)) →
        first p (reverse (up_to (suc k))) ≡ first q (reverse (up_to (suc k)))
    by true e r = first_hit p k e ∙ sym (first_hit q k (sym last ∙ e))
    by false e r = first_miss p k e ∙ r ∙ sym (first_miss q k (sym last ∙ e))

-- ---- the search, with k places left

module _ (ms : List Matrix) (g : Matrix) where
  last_none : last_below ms g 0 ≡ none
  unfolding last_below first up_from
  last_none = refl

  module _ (k : ℕ) where
    last_hit : same_matrix (get_or ms k []) g ≡ true → last_below ms g (suc k) ≡ some k
    unfolding last_below
    last_hit e = first_hit (λ j. same_matrix (get_or ms j []) g) k e

    last_miss : same_matrix (get_or ms k []) g ≡ false → last_below ms g (suc k) ≡ last_below ms g k
    unfolding last_below
    last_miss e = first_miss (λ j. same_matrix (get_or ms j []) g) k e

  abbrev Below : ℕ → Option ℕ → Type 0
  Below k none = Unit {0}
  Below k (some j) = j < k

  below_more : (k : ℕ) (o : Option ℕ) → Below k o → Below (suc k) o
  below_more k none h = tt
  below_more k (some j) h = omega arith

  -- what is found is one of the places
  last_below_lem : (k : ℕ) → Below k (last_below ms g k)
  last_below_lem zero = subst (Below 0) (sym last_none) tt
  last_below_lem (suc k) = by (same_matrix (get_or ms k []) g) refl (below_more k (last_below ms g k) (last_below_lem k))
    where
      by :
          (b : Bool) → same_matrix (get_or ms k []) g ≡ b → Below (suc k) (last_below ms g k) →
          Below (suc k) (last_below ms g (suc k))
      by true e r = let h : k < suc k = omega arith in subst (Below (suc k)) (sym (last_hit k e)) h
      by false e r = subst (Below (suc k)) (sym (last_miss k e)) r

  -- the place that the search gives its caller, who refuses with r where there is none
  pub found_at : (k : ℕ) (q : Found ℕ) (r : Refusal) → Ok k ≡ ok_or q r → q ≡ found (last_of ms g) → last_of ms g ≡ some k
  found_at k q r e h = by (last_of ms g) (e ∙ ap (λ (o : Found ℕ). ok_or o r) h)
    where
      by : (o : Option ℕ) → Ok k ≡ ok_or (found o) r → o ≡ some k
      by none e = absurd (cc)
      by (some j) e = let h : k ≡ j = cc in ap some (sym h)

  pub found_below : (k : ℕ) → last_of ms g ≡ some k → k < length ms
  found_below k e = subst (Below (length ms)) e (last_below_lem (length ms))

-- and that it gives none
pub absent :
    (o : Option ℕ) (q : Found ℕ) (j r : Refusal) → Err j ≡ ok_or q r → q ≡ found o → (j ≡ r) × (is_none o ≡ true)
absent o q j r e h = by o (e ∙ ap (λ (o : Found ℕ). ok_or o r) h)
  where
    by : (o : Option ℕ) → Err j ≡ ok_or (found o) r → (j ≡ r) × (is_none o ≡ true)
    by none e = (cc, refl)
    by (some k) e = absurd (cc)

-- ---- the search by the library, which goes from the end

module _ (ms : List Matrix) (g : Matrix) where
  abbrev same_at : ℕ → Bool
  same_at j = same_matrix (get_or ms j []) g

  -- no place below k is the target's
  last_missed : (k : ℕ) → ((j : ℕ) → j < k → same_at j ≡ false) → last_below ms g k ≡ none
  last_missed zero h = last_none ms g
  last_missed (suc k) h = last_miss ms g k (h k (omega arith)) ∙ last_missed k (λ j l. h j (omega arith))

  -- the place i is, and none from there to k
  last_at :
      (k i : ℕ) → i < k → same_at i ≡ true → ((j : ℕ) → i < j → j < k → same_at j ≡ false) →
      last_below ms g k ≡ some i
  last_at zero i h e m = absurd (not-suc-le-zero h)
  last_at (suc k) i h e m =
      ⊎_elim
      (λ q. rw q (last_hit ms g k (rw (sym q) e)))
      (λ l. last_miss ms g k (m k l (omega arith)) ∙ last_at k i l e (λ j a b. m j a (omega arith)))
      (eq-or-lt_of_le (le_of_suc-le-suc h))

-- the value in what was found is m, and P holds of it
item_at :
    {A : Type 0} (v : A → Matrix) (P : A → Type 0) (o : Found A) (m : Matrix) → option_map v o ≡ Some m → IfSome o P →
    (x : A) × (v x ≡ m) × P x
item_at v P None m e h = absurd (cc)
item_at v P (Some x) m e h = (x, cc, h)

some_if : {A : Type 0} (P : A → Type 0) (o : Found A) → IsSomeAnd o P → IfSome o P
some_if P None h = absurd h
some_if P (Some x) h = h

module _ {S A F : Type 0} {steps : S → Found A → S → Type 0} (p : Run steps) (v : A → Matrix) (ms : List Matrix)
    (reversed : ItemsMapToReversed p v ms) (t : Mut F (A × Unit {0}) Bool) (f : F) (keeps : CallKeepsClosure t f)
    (g : Matrix) (tests : (x : A) (b : Bool) → Called t f (x, tt) b f → b ≡ same_matrix (v x) g) where
  -- the closure gave b of x
  abbrev Gave : Bool → A → Type 0
  Gave b x = Called t f (x, tt) b f

  -- the item that is the place j
  abbrev item : ℕ → Found A
  item j = p.at (length ms - 1 - j)

  given_at :
      (j : ℕ) (b : Bool) → j < length ms → length ms - 1 - j < p.len → IfSome (item j) (Gave b) → same_at ms g j ≡ b
  given_at j b h k s =
      let (x, e, c) = item_at v (Gave b) (item j) (get_or ms j []) (reversed.2 j [] h k) s in
      sym (tests x b c ∙ ap (λ m. same_matrix m g) e)

  pub last_by_run :
      (q : Found ℕ) → IfSome q (λ i. i < length ms) →
      MatchOption q (IsTrue p.whole × AllItemsGive p t f false)
      (λ i. (i + p.len ≡ length ms) × IsFirstToGive p t f true false (length ms - 1 - i)) →
      q ≡ found (last_of ms g)
  last_by_run None below (whole, give) =
      let missed : (j : ℕ) → j < length ms → same_at ms g j ≡ false = λ j h.
      given_at j false h (omega (arith, reversed.1 whole)) (give keeps (length ms - 1 - j)) in
      sym (ap found (last_missed ms g (length ms) missed))
  last_by_run (Some i) below (long, gave) =
      let (hit, misses) = gave keeps in
      let here = given_at i true below (omega arith) (some_if (Gave true) (item i) hit) in
      let behind : (j : ℕ) → i < j → j < length ms → same_at ms g j ≡ false = λ j a b.
      given_at j false b (omega arith) (some_if (Gave false) (item j) (misses (length ms - 1 - j) (omega arith))) in
      sym (ap found (last_at ms g (length ms) i below here behind))

-- ---- in the transformed rotations

pub transformed_last :
    (t : Matrix) (rs : List Matrix) (g : Matrix) → last_of (map (transform_rotation t) rs) g ≡ operation_for t rs g
unfolding last_below operation_for
transformed_last t rs g =
    ap (last_below (map (transform_rotation t) rs) g) (length-map rs (transform_rotation t))
    ∙ same_first (λ j. same_matrix (get_or (map (transform_rotation t) rs) j []) g)
    (λ j. same_matrix (transform_rotation t (get_or rs j [])) g)
    (length rs) (λ j h. ap (λ (m : Matrix). same_matrix m g) (map_at (transform_rotation t) rs j [] [] h))
