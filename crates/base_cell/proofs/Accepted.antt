-- What the label call and its step know of their arguments once they are tested, what they leave, and how the promise
-- is kept.
use Prim.Native.Nat.{ℕ}
use mathlib.Core.Path.{◌≡◌, refl, sym, ap, ◌∙◌}
use mathlib.Core.Bool.{Bool, true, false, not, ◌&&◌, ◌||◌}
use mathlib.Core.List.{List, [], ◌∷◌}
use lib.Dec.{ltb, ltb→lt}
use lib.ListN.{length, get_or}
use borrow.Author.Tests.{ltb-false, eqb-true, not-false}
use Rattle.std.specs.Prelude.{Err, Ok}
use Rattle.definitions.specs.declared.Refusal.{Refusal}
use Rattle.definitions.specs.Lent.{bad_permutation_counts, bad_images}
use Rattle.definitions.specs.Limits.{too_many_sites, not_some, too_many_listed, shorter_than}
use Rattle.definitions.specs.Lists.{all, any}
use Rattle.definitions.specs.Orbit.{multiplicities}
use Rattle.definitions.specs.Refusal.{Checked}
use Rattle.definitions.specs.SiteCalls.{LabelArguments, permutations_in, bad_mapping, label_conditions, LabelCells}
use Rattle.definitions.specs.SiteCalls.{label_rooms, labelled, IsLabelled, HoldsLabels, nothing_labelled, LabelPromise}
use Rattle.laws.specs.Filling.{cut, padded_by}
use Rattle.laws.specs.Lists.{all_at, none_head, none_tail}
use Rattle.laws.specs.Order.{numbered, FailAll, past}
use Rattle.laws.specs.Tests.{never, off, so, neither_left, neither_right}
use Rattle.laws.specs.Verdicts.{promise_accepted, promise_refused}
use Rattle.base_cell.specs.Grouping.{Groupable, Room, Grouped, groupable, LabelsLeft}
use Rattle.base_cell.proofs.Tables.{length-multiplicities}

none_of_four :
    (a b c d : Bool) → (not a && not b && not c && not d) ≡ true
    → (a ≡ false) × (b ≡ false) × (c ≡ false) × (d ≡ false)
none_of_four false false false false e = (refl, refl, refl, refl)
none_of_four false false false true e = absurd (never e)
none_of_four false false true d e = absurd (never e)
none_of_four false true c d e = absurd (never e)
none_of_four true b c d e = absurd (never e)

module _ (x : LabelArguments) where
  abbrev n : ℕ
  n = length x.mapping

  abbrev counts : Bool
  counts = bad_permutation_counts x.sites x.count x.images

  abbrev mapped : Bool
  mapped = bad_mapping x.sites x.mapping

  known : counts ≡ false → mapped ≡ false → too_many_listed n ≡ false → Groupable x
  known counted within few =
      let s = x.sites in
      let some = too_many_sites s || not_some x.count in
      let inside = not-false (all (λ i. ltb i s) x.mapping) within in
      record {
        sites = ltb-false 256 s (neither_left (too_many_sites s) (not_some x.count) (neither_left some _ counted));
        entries = eqb-true _ _ (not-false _ (neither_right some _ counted));
        within = λ k h. ltb→lt (get_or x.mapping k 0) s (all_at (λ i. ltb i s) x.mapping k 0 (so inside) h);
        listed = ltb-false 1024 n few;
      }

  -- of the lists' lengths
  module _ (rooms : List ℕ) where
    abbrev short : Bool
    short = any (shorter_than n) rooms

    -- by the step's test
    pub known_tested : groupable x rooms ≡ true → Groupable x × (short ≡ false)
    known_tested h = let (a, b, c, d) = none_of_four counts mapped (too_many_listed n) short h in (known a b c, d)

    -- by the call's verdict
    pub known_accepted : Checked (label_conditions x rooms) (Ok tt) → Groupable x × (short ≡ false)
    unfolding numbered FailAll
    known_accepted c =
        let fails = past (label_conditions x rooms) tt c in (
          known (off _ fails.0) (neither_right (bad_images x.sites x.count x.images) _ (off _ fails.1.0))
              (off _ fails.1.1.0),
          off _ fails.1.1.1.0,
        )

    -- of the lists that are lent
    pub roomy :
        (e : LabelCells) → rooms ≡ label_rooms e → short ≡ false → Room n (length e.labels) (length e.multiplicities)
    roomy e same long =
        let l = length e.labels in
        let m = length e.multiplicities in
        let h : any (shorter_than n) (l ∷ m ∷ []) ≡ false = sym (ap (any (shorter_than n)) same) ∙ long in
        record {
          labels = ltb-false l n (none_head (shorter_than n) l (m ∷ []) h);
          multiplicities = ltb-false m n (none_head (shorter_than n) m [] (none_tail (shorter_than n) l (m ∷ []) h));
        }

  -- ---- what is left

  module _ (e z : LabelCells) where
    -- the two lists as they are grouped, and zero behind the answer
    pub left_grouped :
        (l m : List ℕ) → Room n (length e.labels) (length e.multiplicities)
        → Grouped (permutations_in x) x.mapping e.labels e.multiplicities l m
        → z.labels ≡ cut 0 (length x.mapping) l → z.multiplicities ≡ cut 0 (length x.mapping) m → LabelsLeft x e z true
    left_grouped l m f g el em = (
      labelled g.answer,
      (g.right, refl),
      record {
        labels = padded_by 0 g.answer e.labels z.labels l n g.right.each f.labels g.labels el;
        multiplicities =
            padded_by 0 (multiplicities g.answer) e.multiplicities z.multiplicities m n
            (length-multiplicities g.answer ∙ g.right.each) f.multiplicities g.multiplicities em;
      },
    )

    -- the promise, by the verdict
    pub kept : Checked (label_conditions x (label_rooms e)) (Ok tt) → LabelsLeft x e z true → LabelPromise x e z (Ok tt)
    kept c (a, is, held) =
        promise_accepted (label_conditions x (label_rooms e)) (IsLabelled x) (HoldsLabels e z)
        (HoldsLabels e z nothing_labelled) a c is held

    pub refused :
        (r : Refusal) → Checked (label_conditions x (label_rooms e)) (Err r) → HoldsLabels e z nothing_labelled
        → LabelPromise x e z (Err r)
    refused r c zero =
        promise_refused (label_conditions x (label_rooms e)) (IsLabelled x) (HoldsLabels e z)
        (HoldsLabels e z nothing_labelled) r c zero
