-- The lists that f makes of the targets, written one behind the other: those of the first i, then what was there.
use Prim.Native.Nat.{ℕ, suc, ◌+◌, ◌-◌, ◌*◌, ◌≤◌, ◌<◌}
use mathlib.Core.Path.{◌≡◌, refl, sym, ap, subst, ◌∙◌}
use mathlib.Core.Bool.{Bool, true, false}
use Rattle.std.specs.Prelude.{Ok, Err}
use mathlib.Core.List.{List, [], ◌∷◌, ◌++◌, map, append_assoc, append-nil}
use mathlib.Core.Option.{Option, some}
use native.Mathlib.Omega.{arith}
use native.Mathlib.Numerals.{add-one}
use lib.ListN.{length, get_or, take, drop, length-append, length-take, length-drop, length-map, drop_of_length-le}
use lib.Seq.{take-suc, take_all, drop-cons, take_at, drop_at, drop-drop}
use Rattle.definitions.specs.Lists.{any, each}
use Rattle.definitions.specs.Matrix.{Matrix}
use Rattle.definitions.specs.Refusal.{Verdict}
use Rattle.definitions.specs.Transformation.{transform_rotation, is_none, operation_for, permutation_or}
use Rattle.definitions.specs.Transformation.{rotation_absent, aligned_to}
use Rattle.laws.specs.Lists.{any_head, part_of, next_part}
use Rattle.symmetrize_align.specs.declared.GivenAlignment.{GivenAlignment}
use Rattle.symmetrize_align.specs.Aligning.{last_of, aligned_by, Put, Aligned}
use Rattle.symmetrize_align.proofs.Search.{transformed_last}

-- ---- one element at least passes, from the place i on

module _ {A : Type 0} (t : A → Bool) (d : A) (l : List A) (i : ℕ) where
  pub any_here : i < length l → t (get_or l i d) ≡ true → any t (drop i l) ≡ true
  any_here h e = ap (any t) (drop-cons l i d h) ∙ any_head t (get_or l i d) (drop (suc i) l) e

  pub any_later : i < length l → t (get_or l i d) ≡ false → any t (drop i l) ≡ any t (drop (i + 1) l)
  unfolding any
  any_later h e = rw (add-one, drop-cons l i d h, any, e)

  pub any-over : length l ≤ i → any t (drop i l) ≡ false
  unfolding any
  any-over h = rw (drop_of_length-le l h)

-- ---- the front

module _ {A B : Type 0} (f : A → List B) where
  each_snoc : (l : List A) (a : A) → each f (l ++ (a ∷ [])) ≡ each f l ++ f a
  unfolding each
  each_snoc [] a = append-nil (f a)
  each_snoc (b ∷ l) a = ap (λ (m : List B). f b ++ m) (each_snoc l a) ∙ sym (append_assoc (f b) (each f l) (f a))

  -- made first and then laid behind each other
  pub each-mapped : (l : List A) → each (λ p. p) (map f l) ≡ each f l
  unfolding each
  each-mapped [] = refl
  each-mapped (a ∷ l) = ap (λ (m : List B). f a ++ m) (each-mapped l)

-- The front of the first i: `size` as long as is said, with the rest of the old list behind it.
pub record Front {A B : Type 0} (f : A → List B) (gs : List A) (i size : ℕ) (old new : List B) : Type 0 where
  pub long : length (each f (take i gs)) ≡ size
  pub cells : new ≡ each f (take i gs) ++ drop size old

module _ {A B : Type 0} (f : A → List B) (gs : List A) (d : A) (old : List B) where
  pub front_none : (n : ℕ) → Front f gs 0 (0 * n) old old
  unfolding each
  front_none n = let z : 0 * n ≡ 0 = omega arith in rw z (record { long = refl; cells = refl })

  -- one list more
  front_more :
      {i at n : ℕ} {l : List B} → Front f gs i at old l → i < length gs → (part : List B) → part ≡ f (get_or gs i d) →
      length part ≡ n → Front f gs (i + 1) (at + n) old (take at l ++ (part ++ drop (at + n - at) (drop at l)))
  front_more {i} {at} {n} {l} c h part e s =
      let done : List B = each f (take i gs) in
      let next : each f (take (i + 1) gs) ≡ done ++ part =
      rw (add-one, take-suc gs i d h, e) (each_snoc f (take i gs) (get_or gs i d)) in
      let w : at + n - at ≡ n = omega arith in
      record {
        long = ap length next ∙ length-append done part ∙ omega (arith, c.long);
        cells =
            rw (
              w,
              c.cells,
              next,
              take_at done (drop at old) at c.long,
              drop_at done (drop at old) at c.long,
              drop-drop n at old,
            )
            (sym (append_assoc done part (drop (at + n) old)));
      }

  -- where each has n cells
  pub front_next :
      {i n : ℕ} {l : List B} → Front f gs i (i * n) old l → i < length gs → (part : List B) → part ≡ f (get_or gs i d) →
      length part ≡ n →
      Front f gs (i + 1) ((i + 1) * n) old (take (i * n) l ++ (part ++ drop (i * n + n - i * n) (drop (i * n) l)))
  front_next {i} {n} {l} c h part e s =
      subst (λ (m : ℕ). Front f gs (i + 1) m old (take (i * n) l ++ (part ++ drop (i * n + n - i * n) (drop (i * n) l))))
      (next_part i (i * n) n refl) (front_more c h part e s)

  pub front_long : {i at n : ℕ} {l : List B} → Front f gs i at old l → length gs ≤ i → at ≡ n → length (each f gs) ≡ n
  front_long {i} {at} {n} {l} c h e = ap (λ (m : List A). length (each f m)) (sym (take_all i gs h)) ∙ c.long ∙ e

  pub front_all :
      {i at n : ℕ} {l : List B} → Front f gs i at old l → length gs ≤ i → at ≡ n → l ≡ each f gs ++ drop n old
  front_all {i} {at} {n} {l} c h e = c.cells ∙ rw (take_all i gs h, e)

-- ---- the part that is copied

-- the permutation of the place that was found
pub part_is :
    (images : List ℕ) (n k from : ℕ) → from ≡ k * n → (o : Option ℕ) → o ≡ some k →
    take (from + n - from) (drop from images) ≡ permutation_or n images o
part_is images n k from e o q = part_of images n k from e ∙ sym (ap (permutation_or n images) q)

pub part_long : (l : List ℕ) (n from : ℕ) → from + n ≤ length l → length (take (from + n - from) (drop from l)) ≡ n
part_long l n from h = simp (length-take, length-drop) (omega arith)

-- ---- the transformed rotations of the call

-- as the code lends them
module _ (t : Matrix) (rs held d : List Matrix) (e : held ≡ map (transform_rotation t) rs ++ d) where
  pub lent_is : take (length rs) held ≡ map (transform_rotation t) rs
  lent_is = rw e (take_at (map (transform_rotation t) rs) d (length rs) (length-map rs (transform_rotation t)))

module _ (given : GivenAlignment) (ms : List Matrix) where
  abbrev t : Matrix
  t = given.t

  abbrev rs : List Matrix
  rs = given.operations.rotations.now

  abbrev images : List ℕ
  images = given.operations.images.now

  abbrev n : ℕ
  n = given.operations.sites

  abbrev gs : List Matrix
  gs = given.targets.now

  pub aligned_by_lem :
      ms ≡ map (transform_rotation t) rs → (old new : List ℕ) (v : Verdict) → Put ms images n gs old new v →
      Aligned given old new v
  unfolding rotation_absent aligned_to
  aligned_by_lem e old new = by
    where
      same : (g : Matrix) → last_of ms g ≡ operation_for t rs g
      same g = ap (λ (l : List Matrix). last_of l g) e ∙ transformed_last t rs g

      absent : any (λ g. is_none (last_of ms g)) gs ≡ any (λ g. is_none (operation_for t rs g)) gs
      absent i = any (λ g. is_none (same g i)) gs

      answer : each (aligned_by ms images n) gs ≡ each (λ p. p) (aligned_to n t rs images gs)
      answer =
          (λ i. each (λ g. permutation_or n images (same g i)) gs)
          ∙ sym (each-mapped (λ g. permutation_or n images (operation_for t rs g)) gs)

      by : (v : Verdict) → Put ms images n gs old new v → Aligned given old new v
      by (Ok u) p =
          (sym absent ∙ p.0, sym (ap length answer) ∙ p.1, p.2 ∙ ap (λ (l : List ℕ). l ++ drop (length gs * n) old) answer)
      by (Err r) p = (p.0, sym absent ∙ p.1)
