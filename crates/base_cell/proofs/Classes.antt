-- Two sites have one class just if they are joined.
use Prim.Native.Nat.{ℕ, zero, suc, ◌+◌, ◌≤◌, ◌<◌}
use Rattle.std.specs.Prelude.{◌≡◌, refl, length}
use Rattle.std.proofs.Math.Path.{sym, ap, subst}
use Rattle.std.proofs.Common.{◌∙◌, le_of_suc-le-suc, not-suc-le-zero}
use Rattle.std.proofs.Math.Logic.{⊎_elim}
use mathlib.Core.List.Memᴰ
use mathlib.Core.List.{List, [], ◌∷◌, Memᴰ}
use native.Mathlib.Omega.{arith}
use Rattle.std.proofs.Math.ListN.{get_or}
use Rattle.definitions.specs.Lists.{up_to}
use Rattle.definitions.specs.Permutation.{image}
use Rattle.definitions.specs.Orbit.{Step, Joined, none, forth, back}
use Rattle.laws.specs.Lists.{length-up_from, up_from_at}
use Rattle.base_cell.specs.Joined.{joined_step}
use Rattle.base_cell.specs.Maps.{Maps, AllMap}
use Rattle.base_cell.specs.Classes.{replaced, join, along, along_all, classes, SameClass, merge_at, length-join, join_joins, length-along, replaced_sound, Decides, Sound}

-- ---- complete: what is merged stays in one class

module _ (n : ℕ) where
  abbrev Kept : List ℕ → List ℕ → Type 0
  Kept cs ds = (i j : ℕ) → i < n → j < n → SameClass cs i j → SameClass ds i j

  join_kept : (a b : ℕ) (cs : List ℕ) → length cs ≡ n → Kept cs (join a b cs)
  unfolding join
  join_kept a b cs e i j hi hj same =
      merge_at (get_or cs a 0) (get_or cs b 0) cs i (omega arith)
      ∙ ap (replaced (get_or cs a 0) (get_or cs b 0)) same
      ∙ sym (merge_at (get_or cs a 0) (get_or cs b 0) cs j (omega arith))

  along-kept : (i : ℕ) (p cs : List ℕ) → length cs ≡ n → Kept cs (along i p cs)
  unfolding along
  along-kept i [] cs e a b ha hb same = same
  along-kept i (j ∷ p) cs e a b ha hb same =
      along-kept (suc i) p (join i j cs) (length-join i j cs ∙ e) a b ha hb (join_kept i j cs e a b ha hb same)

  along_joins :
      (i : ℕ) (p cs : List ℕ) → length cs ≡ n → i + length p ≤ n → ((k : ℕ) → k < length p → get_or p k 0 < n) →
      (k : ℕ) → k < length p → SameClass (along i p cs) (i + k) (get_or p k 0)
  unfolding along
  along_joins i [] cs e room inside k h = absurd (not-suc-le-zero h)
  along_joins i (j ∷ p) cs e room inside zero h =
      let o : i + 0 ≡ i = omega arith in
      let hi : i < n = omega arith in
      rw o
      (along-kept
      (suc i)
      p
      (join i j cs)
      (length-join i j cs ∙ e)
      i
      j
      hi
      (inside 0 h)
      (join_joins i j cs (omega arith) (omega (arith, inside 0 h))))
  along_joins i (j ∷ p) cs e room inside (suc k) h =
      let up : i + suc k ≡ suc i + k = omega arith in
      rw up
      (along_joins
      (suc i)
      p
      (join i j cs)
      (length-join i j cs ∙ e)
      (omega arith)
      (λ m hm. inside (suc m) (omega arith))
      k
      (le_of_suc-le-suc h))

  along_all-kept : (ps : List (List ℕ)) (cs : List ℕ) → length cs ≡ n → Kept cs (along_all ps cs)
  unfolding along_all
  along_all-kept [] cs e a b ha hb same = same
  along_all-kept (p ∷ ps) cs e a b ha hb same =
      along_all-kept ps (along 0 p cs) (length-along 0 p cs ∙ e) a b ha hb (along-kept 0 p cs e a b ha hb same)

  along_all_joins :
      (ps : List (List ℕ)) (cs : List ℕ) → length cs ≡ n → AllMap n ps → (p : List ℕ) → Memᴰ p ps → (i : ℕ) → i < n →
      SameClass (along_all ps cs) i (image p i)
  unfolding along_all
  along_all_joins [] cs e maps p m i h = absurd (Memᴰ.not-nil m)
  along_all_joins (q ∷ ps) cs e maps p m i h =
      ⊎_elim
      here
      (λ m. along_all_joins ps (along 0 q cs) (length-along 0 q cs ∙ e) (λ r l. maps r (Memᴰ.tail l)) p m i h)
      (Memᴰ.cases_cons m)
    where
      mq : Maps n q
      mq = maps q (Memᴰ.head refl)

      long : length q ≡ n
      long = mq.size

      fits : 0 + length q ≤ n
      fits = omega (arith, long)

      joins : SameClass (along 0 q cs) (0 + i) (image q i)
      joins = along_joins 0 q cs e fits (λ k l. mq.inside k (omega (arith, long))) i (omega (arith, long))

      here : p ≡ q → SameClass (along_all ps (along 0 q cs)) i (image p i)
      here w =
          let o : 0 + i ≡ i = omega arith in
          rw w (along_all-kept ps (along 0 q cs) (length-along 0 q cs ∙ e) i (image q i) h (mq.inside i h) (rw o at joins))

  length_start : length (up_to n) ≡ n
  length_start = length-up_from 0 n

  step_class : (ps : List (List ℕ)) → AllMap n ps → {i j : ℕ} → Step ps i j → SameClass (classes n ps) i j
  unfolding classes
  step_class ps maps {i} s =
      subst
      (SameClass (along_all ps (up_to n)) i)
      s.to
      (along_all_joins
      ps
      (up_to n)
      length_start
      maps
      s.permutation
      s.listed
      i
      (omega (arith, s.within, (maps s.permutation s.listed).size)))

  pub joined_class : (ps : List (List ℕ)) → AllMap n ps → {i j : ℕ} → Joined ps i j → SameClass (classes n ps) i j
  joined_class ps maps none = refl
  joined_class ps maps (forth s r) = step_class ps maps s ∙ joined_class ps maps r
  joined_class ps maps (back s r) = sym (step_class ps maps s) ∙ joined_class ps maps r

-- ---- sound: sites of one class are joined

module _ (n : ℕ) (all : List (List ℕ)) where
  join_sound : (a b : ℕ) (cs : List ℕ) → a < n → b < n → Joined all a b → Sound n all cs → Sound n all (join a b cs)
  unfolding join
  join_sound a b cs ha hb ab s =
      record {
        size = length-join a b cs ∙ s.size;
        joined =
            λ i j hi hj e.
            replaced_sound n all (λ k. get_or cs k 0) s.joined a b ha hb ab i j hi hj
            (sym (merge_at (get_or cs a 0) (get_or cs b 0) cs i (omega (arith, s.size)))
            ∙ e
            ∙ merge_at (get_or cs a 0) (get_or cs b 0) cs j (omega (arith, s.size)));
      }

  along_sound :
      (i : ℕ) (p cs : List ℕ) → i + length p ≤ n → ((k : ℕ) → k < length p → get_or p k 0 < n) →
      ((k : ℕ) → k < length p → Joined all (i + k) (get_or p k 0)) → Sound n all cs → Sound n all (along i p cs)
  unfolding along
  along_sound i [] cs room inside joins s = s
  along_sound i (j ∷ p) cs room inside joins s =
      along_sound
      (suc i)
      p
      (join i j cs)
      (omega arith)
      (λ k h. inside (suc k) (omega arith))
      (λ k h. let up : suc i + k ≡ i + suc k = omega arith in rw up (joins (suc k) (omega arith)))
      (join_sound i j cs (omega arith) (inside 0 (omega arith)) (rw o at (joins 0 (omega arith))) s)
    where
      o : i + 0 ≡ i
      o = omega arith

  along_all_sound :
      (ps : List (List ℕ)) (cs : List ℕ) → ((p : List ℕ) → Memᴰ p ps → Memᴰ p all) → AllMap n ps → Sound n all cs → Sound n all (along_all ps cs)
  unfolding along_all
  along_all_sound [] cs within maps s = s
  along_all_sound (p ∷ ps) cs within maps s =
      along_all_sound
      ps
      (along 0 p cs)
      (λ q m. within q (Memᴰ.tail m))
      (λ q m. maps q (Memᴰ.tail m))
      (along_sound 0 p cs (omega (arith, long)) (λ k h. mp.inside k (omega (arith, long))) joins s)
    where
      mp : Maps n p
      mp = maps p (Memᴰ.head refl)

      long : length p ≡ n
      long = mp.size

      joins : (k : ℕ) → k < length p → Joined all (0 + k) (get_or p k 0)
      joins k h =
          let o : 0 + k ≡ k = omega arith in
          rw o (joined_step (record { permutation = p; listed = within p (Memᴰ.head refl); within = h; to = refl }))

  start_sound : Sound n all (up_to n)
  start_sound =
      record {
        size = length-up_from 0 n;
        joined =
            λ i j hi hj e. let q : i ≡ j = omega (arith, up_from_at 0 n i hi, up_from_at 0 n j hj, e) in subst (Joined all i) q none;
      }

pub classes_sound : (n : ℕ) (ps : List (List ℕ)) → AllMap n ps → Sound n ps (classes n ps)
unfolding classes
classes_sound n ps maps = along_all_sound n ps ps (up_to n) (λ p m. m) maps (start_sound n ps)

pub classes_right : (n : ℕ) (ps : List (List ℕ)) → AllMap n ps → Decides n ps (classes n ps)
classes_right n ps maps i j hi hj = ((classes_sound n ps maps).joined i j hi hj, joined_class n ps maps)
