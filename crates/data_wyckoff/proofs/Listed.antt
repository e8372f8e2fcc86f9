-- The candidates of a list, one behind the other: the first refusal of all, and the spaces in the lent list.
use Prim.Native.Nat.{ℕ, suc, ◌+◌, ◌≤◌, ◌<◌}
use mathlib.Core.Path.{◌≡◌, refl, sym, subst, ◌∙◌}
use mathlib.Core.List.{List, [], ◌∷◌, ◌++◌, map, map-append, append_assoc}
use mathlib.Core.Logic.{◌⊎◌, inl, inr, ⊎_elim}
use native.Mathlib.Omega.{arith}
use native.Mathlib.Numerals.{add-one}
use lib.ListN.{length, get_or, set, take, drop, length-set, length-append, length-map, length-take}
use lib.Seq.{take-suc, drop-cons, set-append_seam}
use Rattle.std.specs.Prelude.{Err, Ok}
use Rattle.definitions.specs.declared.Refusal.{Refusal}
use Rattle.definitions.specs.declared.Refusal.TheVariants.{Coordinates, Diagonalisation}
use Rattle.definitions.specs.Coordinates.{Readable}
use Rattle.definitions.specs.Lent.{position_from, cells_of}
use Rattle.definitions.specs.Lists.{any, Some}
use Rattle.definitions.specs.Refusal.{Condition, ◌when◌, coordinates, diagonalisation, number, Verdict, Checked}
use Rattle.definitions.specs.Refusal.{Returns, Applies, upto, precedence, accepted, refused}
use Rattle.definitions.specs.SiteCalls.{prepare_conditions, PreparePromise}
use Rattle.definitions.specs.Standardize.{TextLeaves}
use Rattle.definitions.specs.Wyckoff.{Space, IsSpace, AreSpaces}
use Rattle.laws.specs.Order.{numbered, FailAll, past, FailBefore, past_before, applies_last}
use Rattle.laws.specs.Verdicts.{HoldsAt, Passed, found_at_lem, found_none, refuse, accept, verdict_of, number_one}
use Rattle.data_wyckoff.specs.declared.space.Space as code
use Rattle.data_wyckoff.specs.Spaces.{space_of, cells_of_space, first_of, texts_conditions, Stored, PutSpaces}

-- ---- the refusals of one candidate or of several: 6 where P, 8 where Q

abbrev six_eight : Type 0 → Type 0 → List Condition
six_eight P Q = (coordinates when P) ∷ (diagonalisation when Q) ∷ []

pub data Found (P Q : Type 0) : Verdict → Type 0 where
  neither : (P → ⊥) → (Q → ⊥) → Found P Q (Ok tt)
  six : P → Found P Q (Err Coordinates)
  eight : (P → ⊥) → Q → Found P Q (Err Diagonalisation)

module _ {P Q : Type 0} where
  pub found : (v : Verdict) → Checked (six_eight P Q) v → Found P Q v
  unfolding numbered FailAll Checked Returns Applies FailBefore any upto precedence
  found (Ok u) c = let f = past (six_eight P Q) tt c in neither f.0 f.1.0
  found (Err k) c =
      ⊎_elim first second (applies_last ((coordinates when P) ∷ []) (diagonalisation when Q) (number k) c.0)
    where
      first : Applies ((coordinates when P) ∷ []) (number k) → Found P Q (Err k)
      first a =
          ⊎_elim (λ n. absurd n) (λ h. subst (λ n. Found P Q (Err n)) (number_one Coordinates k h.0) (six h.1))
          (applies_last [] (coordinates when P) (number k) a)

      second : (8 ≡ number k) × Q → Found P Q (Err k)
      second h =
          let b = past_before (number k) (six_eight P Q) c.1 in
          subst (λ n. Found P Q (Err n)) (number_one Diagonalisation k h.0)
          (eight ((subst (λ n. FailBefore n (six_eight P Q)) (sym h.0) b).0 tt) h.1)

  checked_found : (v : Verdict) → Found P Q v → Checked (six_eight P Q) v
  unfolding verdict_of found_at_lem found_none Passed HoldsAt
  checked_found v (neither p q) = accept (six_eight P Q) (p, (q, tt)) refl
  checked_found v (six p) = refuse (six_eight P Q) 0 tt p (Err Coordinates) refl
  checked_found v (eight p q) = refuse (six_eight P Q) 1 (p, tt) q (Err Diagonalisation) refl

  -- of others and of one more
  joined_ok : {P' Q' : Type 0} (v : Verdict) → Found P Q v → Found P' Q' (Ok tt) → Found (P ⊎ P') (Q ⊎ Q') v
  joined_ok v (neither p q) (neither p' q') = neither (⊎_elim p p') (⊎_elim q q')
  joined_ok v (six p) (neither p' q') = six (inl p)
  joined_ok v (eight p q) (neither p' q') = eight (⊎_elim p p') (inl q)

  joined-err :
      {P' Q' : Type 0} (v : Verdict) (k : Refusal) → Found P Q v → Found P' Q' (Err k) →
      Found (P ⊎ P') (Q ⊎ Q') (Err (first_of v k))
  joined-err v k (neither p q) (six p') = six (inr p')
  joined-err v k (neither p q) (eight p' q') = eight (⊎_elim p p') (inr q')
  joined-err v k (six p) (six p') = six (inl p)
  joined-err v k (six p) (eight p' q') = six (inl p)
  joined-err v k (eight p q) (six p') = six (inr p')
  joined-err v k (eight p q) (eight p' q') = eight (⊎_elim p p') (inl q)

  renamed : {P' Q' : Type 0} (v : Verdict) → (P → P') → (P' → P) → (Q → Q') → (Q' → Q) → Found P Q v → Found P' Q' v
  renamed v f f' g g' (neither p q) = neither (λ x. p (f' x)) (λ x. q (g' x))
  renamed v f f' g g' (six p) = six (f p)
  renamed v f f' g g' (eight p q) = eight (λ x. p (f' x)) (g q)

-- ---- one more at the end of a list

module _ {A : Type 0} (P : A → Type 0) where
  some_more : (l : List A) (a : A) → Some P l ⊎ P a → Some P (l ++ (a ∷ []))
  unfolding Some
  some_more [] a (inl s) = absurd s
  some_more [] a (inr p) = inl p
  some_more (b ∷ l) a (inl (inl q)) = inl q
  some_more (b ∷ l) a (inl (inr s)) = inr (some_more l a (inl s))
  some_more (b ∷ l) a (inr p) = inr (some_more l a (inr p))

  some_less : (l : List A) (a : A) → Some P (l ++ (a ∷ [])) → Some P l ⊎ P a
  unfolding Some
  some_less [] a (inl p) = inr p
  some_less [] a (inr s) = absurd s
  some_less (b ∷ l) a (inl q) = inl (inl q)
  some_less (b ∷ l) a (inr s) = ⊎_elim (λ t. inl (inr t)) (λ p. inr p) (some_less l a s)

spaces-more :
    (ts : List (List ℕ)) (ss : List Space) (t : List ℕ) (s : Space) → AreSpaces ts ss → IsSpace t s →
    AreSpaces (ts ++ (t ∷ [])) (ss ++ (s ∷ []))
unfolding AreSpaces
spaces-more [] [] t s a i = (i, tt)
spaces-more [] (r ∷ ss) t s a i = absurd a
spaces-more (u ∷ ts) [] t s a i = absurd a
spaces-more (u ∷ ts) (r ∷ ss) t s a i = (a.0, spaces-more ts ss t s a.1 i)

module _ (ts : List (List ℕ)) (t : List ℕ) (v : Verdict) where
  one_more :
      (w : Verdict) → Found (Some (λ u. Readable u → ⊥) ts ⊎ (Readable t → ⊥)) (Some TextLeaves ts ⊎ TextLeaves t) w →
      Checked (texts_conditions (ts ++ (t ∷ []))) w
  one_more w f =
      checked_found w
      (renamed w (some_more (λ u. Readable u → ⊥) ts t) (some_less (λ u. Readable u → ⊥) ts t)
      (some_more TextLeaves ts t) (some_less TextLeaves ts t) f)

  accepted-more :
      Checked (texts_conditions ts) v → Checked (prepare_conditions t) (Ok tt) →
      Checked (texts_conditions (ts ++ (t ∷ []))) v
  accepted-more c d = one_more v (joined_ok v (found v c) (found (Ok tt) d))

  refused-more :
      (k : Refusal) → Checked (texts_conditions ts) v → Checked (prepare_conditions t) (Err k) →
      Checked (texts_conditions (ts ++ (t ∷ []))) (Err (first_of v k))
  refused-more k c d = one_more (Err (first_of v k)) (joined-err v k (found v c) (found (Err k) d))

-- ---- the list

-- one more behind those at the front
front_more :
    {A : Type 0} (d l a : List A) (i : ℕ) (x : A) → length a ≡ i → (i ≤ length d → l ≡ a ++ drop i d) →
    suc i ≤ length d → set l i x ≡ (a ++ (x ∷ [])) ++ drop (suc i) d
front_more d l a i x n f h =
    let k : length a < length d = omega arith in
    let g : i ≤ length d = omega arith in
    rw (f g, ← n, drop-cons d (length a) x k, append_assoc a (x ∷ []) (drop (suc (length a)) d))
    (set-append_seam a (get_or d (length a) x) (drop (suc (length a)) d) x)

-- a space as it is stored
same_space : (s : code.Space) → cells_of (position_from s.shift) ≡ s.shift → cells_of_space (space_of s) ≡ s
same_space s e = λ i. record { matrix = s.matrix; shift = e i; d = s.d; l = s.l; r = s.r }

-- ---- the loop

pub put_none : (e : List code.Space) → PutSpaces [] e e (Ok tt)
unfolding Some AreSpaces
put_none e =
    record {
      long = refl;
      checked = checked_found (Ok tt) (neither (λ s. s) (λ s. s));
      stored = λ t. record { spaces = []; count = refl; right = tt; front = λ h. refl };
    }

module _ (ts : List (List ℕ)) (t : List ℕ) (e x : List code.Space) (v : Verdict) (p : PutSpaces ts e x v) where
  count_more : length (ts ++ (t ∷ [])) ≡ suc (length ts)
  count_more = length-append ts (t ∷ []) ∙ omega arith

  put_next :
      (s : code.Space) → PreparePromise t (accepted (space_of s)) → cells_of (position_from s.shift) ≡ s.shift →
      PutSpaces (ts ++ (t ∷ [])) e (set x (length ts) s) v
  unfolding Checked Returns
  put_next s d f =
      record {
        long = length-set x (length ts) s ∙ p.long;
        checked = accepted-more ts t v p.checked (d.0, tt);
        stored = λ told. stored (p.stored told);
      }
    where
      stored : Stored ts e x → Stored (ts ++ (t ∷ [])) e (set x (length ts) s)
      stored w =
          record {
            spaces = w.spaces ++ (space_of s ∷ []);
            count = length-append w.spaces (space_of s ∷ []) ∙ omega (arith, w.count, count_more);
            right = spaces-more ts w.spaces t (space_of s) w.right d.1;
            front =
                λ h.
                rw (count_more, map-append cells_of_space w.spaces (space_of s ∷ []), same_space s f)
                (front_more e x (map cells_of_space w.spaces) (length ts) s
                (length-map w.spaces cells_of_space ∙ w.count) w.front (subst (λ n. n ≤ length e) count_more h));
          }

  not_put :
      (k : Refusal) → PreparePromise t (refused (number k)) → PutSpaces (ts ++ (t ∷ [])) e x (Err (first_of v k))
  unfolding Checked Returns
  not_put k d =
      record { long = p.long; checked = refused-more ts t v k p.checked d; stored = λ told. absurd (cc) }

-- the candidate at place i, behind those before it
module _ (ts : List (List ℕ)) (i : ℕ) (h : i < length ts) (e x : List code.Space) (v : Verdict)
    (p : PutSpaces (take i ts) e x v) where
  before : length (take i ts) ≡ i
  before = omega (arith, length-take i ts)

  pub put-more :
      (s : code.Space) (y : List code.Space) → PreparePromise (get_or ts i []) (accepted (space_of s)) →
      cells_of (position_from s.shift) ≡ s.shift → y ≡ set x i s → PutSpaces (take (i + 1) ts) e y v
  put-more s y d f w =
      rw (add-one i, take-suc ts i [] h, w)
      (subst (λ k. PutSpaces (take i ts ++ (get_or ts i [] ∷ [])) e (set x k s) v) before
      (put_next (take i ts) (get_or ts i []) e x v p s d f))

  pub refused_behind :
      (k r : Refusal) → PreparePromise (get_or ts i []) (refused (number k)) → r ≡ first_of v k →
      PutSpaces (take (i + 1) ts) e x (Err r)
  refused_behind k r d w =
      rw (add-one i, take-suc ts i [] h, w) (not_put (take i ts) (get_or ts i []) e x v p k d)
