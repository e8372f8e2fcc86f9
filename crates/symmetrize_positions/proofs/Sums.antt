-- The sum over the targets, target by target.
use Prim.Native.Nat.{ℕ, zero, suc, ◌+◌, ◌≤◌, ◌<◌}
use mathlib.Core.Path.{◌≡◌, refl, sym, ap, ◌∙◌}
use mathlib.Core.Bool.{true}
use mathlib.Core.List.{List, [], ◌∷◌, map, foldl}
use native.Mathlib.Omega.{arith}
use native.Mathlib.Nat.{not-suc-le-zero, le_of_suc-le-suc, zero-add}
use native.Mathlib.Numerals.{add-one}
use lib.ListN.{length, get_or, take, drop, length-map}
use lib.Seq.{take_all}
use lib.IntN.{pos}
use lib.Ieee.{Float, binary64, div}
use Rattle.definitions.specs.declared.Position.{Position}
use Rattle.definitions.specs.Lists.{up_from}
use Rattle.laws.specs.Lists.{map_at}
use Rattle.definitions.specs.Matrix.{Matrix}
use Rattle.definitions.specs.Real.{RealMatrix, real, real_of, apply_f, add_p, sub_p, map_p, sum_p, origin}
use Rattle.definitions.specs.Permutation.{inverse_image, is_permutation, permutation_at}
use Rattle.definitions.specs.Symmetrization.{off_round, displacement, displacements, symmetrized_at}
use Rattle.definitions.specs.Lent.{position_from, cells_of, operations_from}
use Rattle.symmetrize_positions.specs.Targets.{Made, displacements_at, symmetrized_site, shifted, more, total, mean}
use Rattle.symmetrize_positions.proofs.Making.{permuted}

foldl_suc : {A B : Type 0} (f : B → A → B) (b : B) (l : List A) (d : A) (k : ℕ) → k < length l → foldl f b (take (suc k) l) ≡ f (foldl f b (take k l)) (get_or l k d)
foldl_suc f b [] d k h = absurd (not-suc-le-zero h)
foldl_suc f b (x ∷ l) d zero h = refl
foldl_suc f b (x ∷ l) d (suc k) h = foldl_suc f (f b x) l d k (le_of_suc-le-suc h)

length_operations : (gs : List Matrix) (vs : List (List Float)) → length vs ≡ length gs → length (operations_from gs vs) ≡ length gs
unfolding operations_from
length_operations [] vs e = refl
length_operations (g ∷ gs) [] e = absurd (omega arith)
length_operations (g ∷ gs) (v ∷ vs) e = ap suc (length_operations gs vs (omega arith))

module _ (ps : List Position) (i n : ℕ) (images : List ℕ) where
  abbrev by : List Matrix → List (List Float) → ℕ → List Position
  by gs vs a = displacements ps (operations_from gs vs) (map (permutation_at n images) (up_from a (length gs))) i

  abbrev of : Matrix → List Float → ℕ → Position
  of g v a = map_p off_round (displacement ps (record { rotation = g; translation = position_from v }) (permutation_at n images a) i)

  length_by : (gs : List Matrix) (vs : List (List Float)) (a : ℕ) → length vs ≡ length gs → length (by gs vs a) ≡ length gs
  unfolding displacements operations_from up_from
  length_by [] vs a e = refl
  length_by (g ∷ gs) [] a e = absurd (omega arith)
  length_by (g ∷ gs) (v ∷ vs) a e = ap suc (length_by gs vs (suc a) (omega arith))

  at_by : (gs : List Matrix) (vs : List (List Float)) (a k : ℕ) → length vs ≡ length gs → k < length gs → get_or (by gs vs a) k origin ≡ of (get_or gs k []) (get_or vs k []) (a + k)
  unfolding displacements operations_from up_from
  at_by [] vs a k e h = absurd (not-suc-le-zero h)
  at_by (g ∷ gs) [] a k e h = absurd (omega arith)
  at_by (g ∷ gs) (v ∷ vs) a zero e h = let z : a + 0 ≡ a = omega arith in rw z
  at_by (g ∷ gs) (v ∷ vs) a (suc k) e h =
      let z : a + suc k ≡ suc a + k = omega arith in
      rw z (at_by gs vs (suc a) k (omega arith) (le_of_suc-le-suc h))

module _ (ps : List (List Float)) (gs : List Matrix) (vs : List (List Float)) (images : List ℕ) (i : ℕ) where
  abbrev pub all : List Position
  all = displacements_at (map position_from ps) gs vs images i

  pub length-all : length vs ≡ length gs → length all ≡ length gs
  length-all e = length_by (map position_from ps) i (length (map position_from ps)) images gs vs 0 e

  -- the k-th of them is what the site that has the image i is taken by
  is_shifted : (k j : ℕ) → length vs ≡ length gs → k < length gs → i < length ps → j < length ps → j ≡ inverse_image (permutation_at (length ps) images k) i
      → get_or all k origin ≡ shifted (real (get_or gs k [])) (position_from (get_or vs k [])) ps j i
  is_shifted k j e h a b f =
      at_by (map position_from ps) i (length (map position_from ps)) images gs vs 0 k e h
      ∙ rw (zero-add k, length-map ps position_from, ← f, map_at position_from ps i [] origin a, map_at position_from ps j [] origin b)

  sum-suc : (k : ℕ) → length vs ≡ length gs → k < length gs → add_p (sum_p (take k all)) (get_or all k origin) ≡ sum_p (take (k + 1) all)
  sum-suc k e h = rw (add-one k) (sym (foldl_suc add_p origin all origin k (omega (arith, length-all e))))

  pub at_site : (p m s r : Position) (by : Float) → length vs ≡ length gs → i < length ps → p ≡ position_from (get_or ps i []) → by ≡ real_of (pos (length gs)) → s ≡ sum_p all → m ≡ map_p (λ x. div binary64 x by) s → r ≡ add_p p m → r ≡ symmetrized_site (map position_from ps) gs vs images i
  unfolding symmetrized_at
  at_site p m s r by e h ep eb es em er = er ∙ rw (ep, em, es, eb, symmetrized_at, map_at position_from ps i [] origin h, length_operations gs vs e)

pub more_is :
    (ps : List (List Float)) (gs : List Matrix) (vs : List (List Float)) (images : List ℕ) (k i j : ℕ)
    (m : RealMatrix) (t : Position) (v x : List Float) (q p d : Position)
    → inverse_image (permutation_at (length ps) images k) i ≡ j → m ≡ real (get_or gs k []) → t ≡ position_from (get_or vs k [])
    → q ≡ position_from (get_or ps j []) → p ≡ position_from (get_or ps i [])
    → d ≡ map_p off_round (sub_p (add_p (apply_f m q) t) p)
    → x ≡ cells_of (add_p (position_from v) d) → x ≡ more ps gs vs images k i v
more_is ps gs vs images k i j m t v x q p d ei em et eq ep ed ex =
    ex ∙ ap (λ y. cells_of (add_p (position_from v) y)) (ed ∙ rw (em, et, eq, ep, ei))

pub mean_is : (ps : List (List Float)) (k i : ℕ) (v x : List Float) (p : Position) (by : Float)
    → p ≡ position_from (get_or ps i []) → by ≡ real_of (pos k) → x ≡ cells_of (add_p p (map_p (λ s. div binary64 s by) (position_from v))) → x ≡ mean ps k i v
mean_is ps k i v x p by ep eb ex = ex ∙ rw (ep, eb)

module _ (ps : List (List Float)) (gs : List Matrix) (vs : List (List Float)) (images : List ℕ) where
  -- the sums over the targets before k
  abbrev pub Summed : ℕ → List (List Float) → Type 0
  Summed k l = (i : ℕ) → i < length ps → get_or l i [] ≡ cells_of (sum_p (take k (all ps gs vs images i)))

  pub sums_more :
      (k : ℕ) (old new : List (List Float)) → length vs ≡ length gs → k < length gs
      → is_permutation (length ps) (permutation_at (length ps) images k) ≡ true
      → Made (more ps gs vs images k) (length ps) old new → Summed k old → Summed (k + 1) new
  sums_more k old new e h p made s i a =
      let perm = permutation_at (length ps) images k in
      let within = (permuted (length ps) perm p).within i a in
      let d = is_shifted ps gs vs images i k (inverse_image perm i) e h a within refl in
      made.front i a ∙ ap (more ps gs vs images k i) (s i a)
      ∙ ap (λ x. cells_of (add_p (sum_p (take k (all ps gs vs images i))) x)) (sym d)
      ∙ ap cells_of (sum-suc ps gs vs images i k e h)

  pub sums_all : (k : ℕ) (l d : List (List Float)) → length vs ≡ length gs → length gs ≤ k → drop (length ps) l ≡ drop (length ps) d → Summed k l
      → Made (total ps gs vs images) (length ps) d l
  sums_all k l d e h r s = record {
    front = λ i a. s i a ∙ ap (λ x. cells_of (sum_p x)) (take_all k (all ps gs vs images i) (omega (arith, length-all ps gs vs images i e)));
    rest = r;
  }
