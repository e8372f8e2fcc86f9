-- The verdict of the letter call from the verdicts of its parts, and how its promise is kept.
use Prim.Native.Nat.{ℕ, zero, suc, ◌-◌, ◌≤◌}
use mathlib.Core.Path.{◌≡◌, refl, sym, ap, ◌∙◌, subst}
use mathlib.Core.Bool.{Bool, true, false, not, ◌&&◌, ◌||◌}
use mathlib.Core.List.{List, [], ◌∷◌, map}
use mathlib.Core.Logic.{◌⊎◌, inl, inr, ⊎_elim}
use native.Mathlib.Nat.{not-suc-le-zero, le_of_suc-le-suc}
use native.Mathlib.Omega.{arith}
use borrow.Author.Tests.{ltb-false, le-ltb, lt-ltb, eq-eqb, eqb-true, not-true, not-false}
use lib.Dec.{T, ltb}
use lib.ListN.{length, get_or, take, replicate, length-append, length-map, length-replicate}
use lib.Seq.{take_at}
use Rattle.std.specs.Prelude.{Err, Ok, is_ok, is_err, IfErr}
use Rattle.definitions.specs.declared.Refusal.{Refusal}
use Rattle.definitions.specs.declared.Refusal.TheVariants.{Coordinates, Diagonalisation, ListedSites, Buffer, OrbitFit}
use Rattle.definitions.specs.Lent.{cells_of, zero_cells, zero_matrix, unlike, bad_images, bad_permutation_counts}
use Rattle.definitions.specs.Limits.{too_many_listed, too_many_candidates, shorter_than}
use Rattle.definitions.specs.Lists.{any, Some}
use Rattle.definitions.specs.Orbit.{Labels, multiplicities}
use Rattle.definitions.specs.Refusal.{Checked, Returns, Applies, upto, precedence, padded, Outcome, accepted}
use Rattle.definitions.specs.Refusal.{refused, number, Verdict, ◌when◌}
use Rattle.definitions.specs.Refusal.{counts, site_image, listed_sites, buffer, coordinates, diagonalisation, Condition}
use Rattle.definitions.specs.Standardize.{BadCoordinates, TextLeaves}
use Rattle.definitions.specs.Wyckoff.{Space, AreSpaces, Found, sites_of, letters, orbit_without_fit}
use Rattle.definitions.specs.SiteCalls.{LabelArguments, permutations_in, bad_mapping, LabelCells, label_rooms}
use Rattle.definitions.specs.SiteCalls.{label_conditions, LabelPromise, IsLabelled, HoldsLabels}
use Rattle.definitions.specs.SiteCalls.{LetterArguments, bad_letter_counts, letter_conditions, LetterCells, letter_rooms}
use Rattle.definitions.specs.SiteCalls.{HoldsLetters, IsLettered, LetterPromise}
use Rattle.definitions.specs.SiteCalls.{design_from, nothing_lettered, lettered}
use Rattle.definitions.specs.SiteCalls.{SpaceCells, space_rooms, HoldsSpaces, prepare_all_conditions, PrepareAllPromise}
use Rattle.definitions.specs.SiteCalls.{AssignArguments, sites_in, assignable, all_lettered, Assigned}
use Rattle.laws.specs.Lists.{any_none, any_head, any-tail, none_head, none_tail}
use Rattle.laws.specs.Counting.{all_of}
use Rattle.laws.specs.Order.{applies_later, applies_last, FailBefore, past_before, numbered, FailAll, past}
use Rattle.laws.specs.Tests.{so, not_so, off, true_of, neither_left, neither_right}
use Rattle.laws.specs.Verdicts.{HoldsAt, Passed, pass, found_at_lem, found_none, refuse, accept, verdict_of}
use Rattle.laws.specs.Verdicts.{number_one, promise_accepted, promise_refused}
use Rattle.base_cell.specs.Labels.{labels_listed}
use Rattle.base_cell.proofs.Tables.{length-multiplicities}
use Rattle.std.proofs.lemmas.List.{take-map}
use Rattle.data_wyckoff.specs.declared.space.Space as code
use Rattle.data_wyckoff.specs.Spaces.{lists}
use Rattle.data_wyckoff.proofs.Promise.{rooms_alike}
use Rattle.symmetrize_wyckoff.specs.Lettered.{unfit_by}
use Rattle.symmetrize_wyckoff.specs.Unfit.{lettered_or_unfit}
use Rattle.symmetrize_wyckoff.specs.Prepared.{Assignable}
use Rattle.symmetrize_wyckoff.specs.Lettering.{AssignJudged, lacks_room, lacks_letter, has_all, Placed}
use Rattle.symmetrize_wyckoff.specs.Lettering.{assign_with, assign_by, Labellable, LabelledJudged}
use Rattle.symmetrize_wyckoff.specs.Lettering.{over, short, without, with_all}
use Rattle.symmetrize_wyckoff.specs.Lettering.{LetterJudged, cells_of_spaces, placed_by}
use Rattle.symmetrize_wyckoff.proofs.Given.{six-same}
use Rattle.symmetrize_wyckoff.proofs.Designs.{length-spaces, found_design, sites_are}

abbrev is_accepted : {A : Type 0} → Outcome A → Bool
is_accepted (accepted a) = true
is_accepted (refused k) = false

-- ---- the step, where there is room

pub step_judged :
    (x : AssignArguments) (entry exit : List ℕ) (v : Verdict) → shorter_than (length x.labels) (length entry) ≡ false →
    Assigned x entry exit (is_ok v) → IfErr v (λ r. r ≡ OrbitFit) → AssignJudged x entry exit v
step_judged x entry exit (Ok u) r a e = has_all r a
step_judged x entry exit (Err k) r a e =
    subst (λ j. AssignJudged x entry exit (Err j)) (sym e) (lacks_letter r a)

-- ---- the lists that were labelled can be lettered

like_none : (n a : ℕ) → n ≡ a → unlike n a ≡ false
like_none n a e = ap not (eq-eqb n a e)

pub assignable_is :
    (x : AssignArguments) (room : ℕ) → Assignable x → length x.labels ≤ room → assignable x room ≡ true
unfolding any
assignable_is x room h r =
    let n = length x.labels in
    let m = length x.candidates in
    let q = length x.spaces.shifts in
    let d = length x.spaces.ds in
    let l = length x.spaces.ls in
    let s = length x.spaces.rs in
    six-same
    (ap not (le-ltb 1024 n h.listed))
    (ap not (le-ltb 64 m h.few))
    (ap not
    (any_none (unlike n) (length x.multiplicities) (length x.positions ∷ [])
    (like_none n (length x.multiplicities) (sym h.multiplicities))
    (any_none (unlike n) (length x.positions) [] (like_none n (length x.positions) (sym h.positions)) refl)))
    (ap not
    (any_none (unlike m) (length x.letters) (space_rooms x.spaces)
    (like_none m (length x.letters) (sym h.letters))
    (any_none (unlike m) (length x.spaces.matrices) (q ∷ d ∷ l ∷ s ∷ [])
    (like_none m (length x.spaces.matrices) (sym h.matrices))
    (any_none (unlike m) q (d ∷ l ∷ s ∷ []) (like_none m q (sym h.shifts))
    (any_none (unlike m) d (l ∷ s ∷ []) (like_none m d (sym h.ds))
    (any_none (unlike m) l (s ∷ []) (like_none m l (sym h.ls))
    (any_none (unlike m) s [] (like_none m s (sym h.rs)) refl)))))))
    (ap not (le-ltb room n r))
    (all_of (λ l. ltb l n) 0 x.labels (λ i k. lt-ltb (get_or x.labels i 0) n (h.below i k)))

-- ---- an answer in a lent list

-- an answer at the front of a list
front : {A : Type 0} (z : A) (a l : List A) (room n : ℕ) → l ≡ padded z a room → length a ≡ n → take n l ≡ a
front z a l room n e h = ap (take n) e ∙ take_at a (replicate (room - length a) z) n h

-- .. it is there
behind : {A : Type 0} (z : A) (a l : List A) (room n : ℕ) → l ≡ padded z a room → length a ≡ n → n ≤ length l
behind z a l room n e h =
    omega (arith, h, ap length e ∙ length-append a (replicate (room - length a) z))

-- .. and the list is as long as it was
as_long : {A : Type 0} (z : A) (a l : List A) (room : ℕ) → l ≡ padded z a room → length a ≤ room → length l ≡ room
as_long z a l room e h =
    omega (arith, h, ap length e ∙ length-append a (replicate (room - length a) z), length-replicate (room - length a) z)

-- a part of a list that is so long
pub take_count : {A : Type 0} (n : ℕ) (l : List A) → n ≤ length l → n ≡ length (take n l)
take_count zero l h = refl
take_count (suc n) [] h = absurd (not-suc-le-zero h)
take_count (suc n) (x ∷ l) h = ap suc (take_count n l (le_of_suc-le-suc h))

-- ---- the label call

module _ (x : LabelArguments) (e z : LabelCells) where
  abbrev conditions₁ : List Condition
  conditions₁ = label_conditions x (label_rooms e)

  pub labelled_refused : (k : Refusal) → LabelPromise x e z (Err k) → Checked conditions₁ (Err k)
  unfolding Checked Returns
  labelled_refused k (accepted a, h, t) = absurd (subst (λ o. T (is_accepted o)) t tt)
  labelled_refused k (refused j, h, t) = subst (Returns conditions₁ (λ (u : Unit {0}). Unit {0})) t h.0

  pub labelled-accepted :
      LabelPromise x e z (Ok tt) → Checked conditions₁ (Ok tt)
      × ((a : LabelCells) × IsLabelled x a × HoldsLabels e z a)
  unfolding Checked Returns
  labelled-accepted (accepted a, h, t) = ((h.0.0, tt), (a, h.0.1, h.1))
  labelled-accepted (refused j, h, t) = absurd (subst (λ o. T (is_accepted o)) (sym t) tt)

  module _ (k : Refusal) (n2 : T (bad_permutation_counts x.sites x.count x.images) → ⊥)
      (n5 : T (bad_images x.sites x.count x.images || bad_mapping x.sites x.mapping) → ⊥) where
    abbrev nine : Condition
    nine = listed_sites when T (too_many_listed (length x.mapping))

    abbrev ten : Condition
    ten = buffer when T (any (shorter_than (length x.mapping)) (label_rooms e))

    abbrev five : Condition
    five = site_image when T (bad_images x.sites x.count x.images || bad_mapping x.sites x.mapping)

    abbrev two : Condition
    two = counts when T (bad_permutation_counts x.sites x.count x.images)

    -- past 2 and 5 it refuses with 9 or with 10
    pub nine_or_ten :
        Checked conditions₁ (Err k) →
        ((ListedSites ≡ k) × T (too_many_listed (length x.mapping)))
        ⊎ ((Buffer ≡ k) × (T (too_many_listed (length x.mapping)) → ⊥)
        × T (any (shorter_than (length x.mapping)) (label_rooms e)))
    unfolding Checked Returns Applies FailBefore any upto precedence
    nine_or_ten c =
        ⊎_elim (λ a. inl (alone a)) (λ h. inr (number_one Buffer k h.0, few h, h.1))
        (applies_last (nine ∷ []) ten (number k) left)
      where
        left : Applies (nine ∷ ten ∷ []) (number k)
        left =
            applies_later five (nine ∷ ten ∷ []) (number k) n5
            (applies_later two (five ∷ nine ∷ ten ∷ []) (number k) n2 c.0)

        alone : Applies (nine ∷ []) (number k) → (ListedSites ≡ k) × T (too_many_listed (length x.mapping))
        alone a =
            ⊎_elim (λ n. absurd n) (λ h. (number_one ListedSites k h.0, h.1)) (applies_last [] nine (number k) a)

        few :
            (10 ≡ number k) × T (any (shorter_than (length x.mapping)) (label_rooms e)) →
            T (too_many_listed (length x.mapping)) → ⊥
        few h = (subst (λ n. FailBefore n conditions₁) (sym h.0) (past_before (number k) conditions₁ c.1)).1.1.0 tt

-- ---- the candidates

module _ (texts : List (List ℕ)) (e z : SpaceCells) where
  abbrev conditions₂ : List Condition
  conditions₂ = prepare_all_conditions texts (space_rooms e)

  pub prepared_refused : (k : Refusal) → PrepareAllPromise texts e z (Err k) → Checked conditions₂ (Err k)
  unfolding Checked Returns
  prepared_refused k (accepted a, h, t) = absurd (subst (λ o. T (is_accepted o)) t tt)
  prepared_refused k (refused j, h, t) = subst (Returns conditions₂ (λ (u : Unit {0}). Unit {0})) t h.0

  pub prepared-accepted :
      PrepareAllPromise texts e z (Ok tt) →
      Checked conditions₂ (Ok tt) × ((ss : List Space) × AreSpaces texts ss × HoldsSpaces e z ss)
  unfolding Checked Returns
  prepared-accepted (accepted ss, h, t) = ((h.0.0, tt), (ss, h.0.1, h.1))
  prepared-accepted (refused j, h, t) = absurd (subst (λ o. T (is_accepted o)) (sym t) tt)

  module _ (k : Refusal) (n2 : T (too_many_candidates (length texts)) → ⊥)
      (n10 : T (any (shorter_than (length texts)) (space_rooms e)) → ⊥) where
    abbrev many : Condition
    many = counts when T (too_many_candidates (length texts))

    abbrev six : Condition
    six = coordinates when BadCoordinates texts

    abbrev eight : Condition
    eight = diagonalisation when Some TextLeaves texts

    abbrev room_ten : Condition
    room_ten = buffer when T (any (shorter_than (length texts)) (space_rooms e))

    -- past 2 and with room it refuses with 6 or with 8
    pub six_or_eight :
        Checked conditions₂ (Err k) → ((Coordinates ≡ k) × BadCoordinates texts)
        ⊎ ((Diagonalisation ≡ k) × (BadCoordinates texts → ⊥) × Some TextLeaves texts)
    unfolding Checked Returns Applies FailBefore any upto precedence
    six_or_eight c =
        ⊎_elim (λ a. inl (alone a)) (λ h. inr (number_one Diagonalisation k h.0, good h, h.1))
        (applies_last (six ∷ []) eight (number k) two_left)
      where
        left : Applies (six ∷ eight ∷ room_ten ∷ []) (number k)
        left = applies_later many (six ∷ eight ∷ room_ten ∷ []) (number k) n2 c.0

        two_left : Applies (six ∷ eight ∷ []) (number k)
        two_left = ⊎_elim (λ a. a) (λ h. absurd (n10 h.1)) (applies_last (six ∷ eight ∷ []) room_ten (number k) left)

        alone : Applies (six ∷ []) (number k) → (Coordinates ≡ k) × BadCoordinates texts
        alone a = ⊎_elim (λ n. absurd n) (λ h. (number_one Coordinates k h.0, h.1)) (applies_last [] six (number k) a)

        good : (8 ≡ number k) × Some TextLeaves texts → BadCoordinates texts → ⊥
        good h = (subst (λ n. FailBefore n conditions₂) (sym h.0) (past_before (number k) conditions₂ c.1)).1.0 tt

-- ---- the labels and their letters

-- rooms of three, by those of two
any_front : (t : ℕ → Bool) (a b c : ℕ) → any t (a ∷ b ∷ []) ≡ true → any t (a ∷ b ∷ c ∷ []) ≡ true
unfolding any
any_front t a b c = by (t a) (t b)
  where
    by :
        (x y : Bool) →
        elim x as (λ (u : Bool). Bool) [
          | true ↦ true
          | false ↦ elim
              y as (λ (u : Bool). Bool) [ true ↦ true | false ↦ false ]
        ] ≡ true →
        elim x as (λ (u : Bool). Bool) [
          | true ↦ true
          | false ↦ elim y as (λ (u : Bool). Bool) [
            | true ↦ true
            | false ↦ elim
                (t c) as (λ (u : Bool). Bool) [ true ↦ true | false ↦ false ]
          ]
        ]
        ≡ true
    by true y e = refl
    by false true e = refl
    by false false e = absurd (subst T (sym e) tt)

three_none : (t : ℕ → Bool) (a b c : ℕ) → any t (a ∷ b ∷ []) ≡ false → t c ≡ false → any t (a ∷ b ∷ c ∷ []) ≡ false
unfolding any
three_none t a b c e f =
    any_none t a (b ∷ c ∷ []) (none_head t a (b ∷ []) e)
    (any_none t b (c ∷ []) (none_head t b [] (none_tail t a (b ∷ []) e)) (any_none t c [] f refl))

module _ (x : LabelArguments) (p : Placed) (h : Labellable x p) (entry exit : LetterCells) where
  abbrev before : LabelCells
  before = record { labels = entry.labels; multiplicities = entry.multiplicities }

  -- the label call refuses
  pub labelled_out :
      (z : LabelCells) (k : Refusal) → LabelPromise x before z (Err k) → LabelledJudged x p entry exit (Err k)
  labelled_out z k promise =
      ⊎_elim
      (λ a. subst (λ n. LabelledJudged x p entry exit (Err n)) a.0
      (over (true_of (too_many_listed (length x.mapping)) a.1)))
      (λ a.
      subst (λ n. LabelledJudged x p entry exit (Err n)) a.0
      (short (off (too_many_listed (length x.mapping)) a.1)
      (any_front (shorter_than (length x.mapping)) (length entry.labels) (length entry.multiplicities)
      (length entry.letters)
      (true_of (any (shorter_than (length x.mapping)) (label_rooms before)) a.2))))
      (nine_or_ten x before z k (not_so h.counts) (not_so h.images)
      (labelled_refused x before z k promise))

  -- it accepts, and its lists go on to the step
  abbrev after : LabelCells
  after = record { labels = exit.labels; multiplicities = exit.multiplicities }

  module _ (promise : LabelPromise x before after (Ok tt)) where
    abbrev n : ℕ
    n = length x.mapping

    known :
        Checked (label_conditions x (label_rooms before)) (Ok tt)
        × ((a : LabelCells) × IsLabelled x a × HoldsLabels before after a)
    known = labelled-accepted x before after promise

    abbrev ls : List ℕ
    ls = known.1.0.labels

    right : Labels (permutations_in x) x.mapping ls
    right = known.1.1.0

    counted : known.1.0.multiplicities ≡ multiplicities ls
    counted = known.1.1.1

    listed : too_many_listed n ≡ false
    unfolding numbered FailAll
    listed = off (too_many_listed n) (past (label_conditions x (label_rooms before)) tt known.0).1.1.0

    rooms : any (shorter_than n) (label_rooms before) ≡ false
    unfolding numbered FailAll
    rooms =
        off (any (shorter_than n) (label_rooms before))
        (past (label_conditions x (label_rooms before)) tt known.0).1.1.1.0

    -- the labels and the multiplicities are there
    counted_multiplicities : length known.1.0.multiplicities ≡ n
    counted_multiplicities = ap length counted ∙ length-multiplicities ls ∙ right.each

    pub labels_there : n ≤ length exit.labels
    labels_there = behind 0 ls exit.labels (length entry.labels) n known.1.2.labels right.each

    pub multiplicities_there : n ≤ length exit.multiplicities
    multiplicities_there =
        behind 0 known.1.0.multiplicities exit.multiplicities (length entry.multiplicities) n known.1.2.multiplicities
        counted_multiplicities

    front_labels : take n exit.labels ≡ ls
    front_labels = front 0 ls exit.labels (length entry.labels) n known.1.2.labels right.each

    front_multiplicities : take n exit.multiplicities ≡ multiplicities ls
    front_multiplicities =
        front 0 known.1.0.multiplicities exit.multiplicities (length entry.multiplicities) n
        known.1.2.multiplicities counted_multiplicities
        ∙ counted

    ready : Assignable (assign_by p ls)
    ready =
        let few : n ≤ 1024 = ltb-false 1024 n listed in
        record {
          listed = omega (arith, right.each);
          few = h.few;
          multiplicities = length-multiplicities ls;
          positions = h.positions ∙ sym right.each;
          letters = h.letters;
          matrices = h.matrices;
          shifts = h.shifts;
          ds = h.ds;
          ls = h.ls;
          rs = h.rs;
          below = λ k b. omega (arith, right.each, labels_listed right k (omega (arith, right.each)));
        }

    -- what the step says is said of the labels
    whole :
        (w : Bool) (z : List ℕ) → shorter_than (length ls) (length entry.letters) ≡ false →
        Assigned (assign_by p ls) entry.letters z w → all_lettered (sites_in (assign_by p ls)) ≡ w
    whole w z r a =
        let e = assignable_is (assign_by p ls) (length entry.letters) ready
        (ltb-false (length entry.letters) (length ls) r) in
        sym (a.judged ∙ ap (λ b. b && all_lettered (sites_in (assign_by p ls))) e)

    all_room :
        shorter_than (length ls) (length entry.letters) ≡ false → any (shorter_than n) (letter_rooms entry) ≡ false
    all_room r =
        three_none (shorter_than n) (length entry.labels) (length entry.multiplicities) (length entry.letters)
        rooms
        (ap (λ m. shorter_than m (length entry.letters)) (sym right.each) ∙ r)

    by_step :
        (w : Verdict) → AssignJudged (assign_by p ls) entry.letters exit.letters w →
        LabelledJudged x p entry exit w
    by_step w (lacks_room r) =
        short listed
        (any-tail (shorter_than n) (length entry.labels)
        (length entry.multiplicities ∷ length entry.letters ∷ [])
        (any-tail (shorter_than n) (length entry.multiplicities) (length entry.letters ∷ [])
        (any_head (shorter_than n) (length entry.letters) []
        (ap (λ m. shorter_than m (length entry.letters)) (sym right.each) ∙ r))))
    by_step w (lacks_letter r a) = without listed (all_room r) ls right (whole false exit.letters r a)
    by_step w (has_all r a) =
        with_all listed (all_room r) ls right (whole true exit.letters r a)
        (record {
          labels = known.1.2.labels;
          multiplicities = known.1.2.multiplicities ∙ ap (λ m. padded 0 m (length entry.multiplicities)) counted;
          letters = a.letters;
        })

    pub labelled_in :
        (w : Verdict) → AssignJudged (assign_with p (take n exit.labels) (take n exit.multiplicities))
        entry.letters exit.letters w →
        LabelledJudged x p entry exit w
    labelled_in w j =
        by_step w (subst (λ a. AssignJudged a entry.letters exit.letters w)
        (λ i. assign_with p (front_labels i) (front_multiplicities i)) j)

-- ---- all

module _ (x : LetterArguments) (entry exit : LetterCells) where
  abbrev conditions₃ : List Condition
  conditions₃ = letter_conditions x (letter_rooms entry)

  module _ (given : Passed conditions₃ 3) where
    abbrev t : ℕ
    t = length x.texts

    abbrev bad_permutations : Bool
    bad_permutations = bad_permutation_counts x.labelling.sites x.labelling.count x.labelling.images

    abbrev bad₁ : Bool
    bad₁ = bad_permutations || too_many_candidates t

    abbrev bad₂ : Bool
    bad₂ = bad₁ || unlike (length x.multiplicities) t

    abbrev bad₃ : Bool
    bad₃ = bad₂ || unlike (length x.letters) t

    not_two : bad_letter_counts x ≡ false
    unfolding Passed
    not_two = off (bad_letter_counts x) given.0

    not_three : bad₃ ≡ false
    not_three = neither_left bad₃ (unlike (length x.labelling.mapping) (length x.positions)) not_two

    not_bad₂ : bad₂ ≡ false
    not_bad₂ = neither_left bad₂ (unlike (length x.letters) t) not_three

    not_bad₁ : bad₁ ≡ false
    not_bad₁ = neither_left bad₁ (unlike (length x.multiplicities) t) not_bad₂

    pub few_texts : too_many_candidates t ≡ false
    few_texts = neither_right bad_permutations (too_many_candidates t) not_bad₁

    pub few_candidates : t ≤ 64
    few_candidates = ltb-false 64 t few_texts

    -- room for the spaces of so many
    pub spaces_room : (e : List code.Space) → length e ≡ 64 → any (shorter_than t) (space_rooms (lists e)) ≡ false
    spaces_room e h =
        rooms_alike (shorter_than t) e ∙ le-ltb (length e) t (subst (λ n. t ≤ n) (sym h) few_candidates)

    alike : (a b : ℕ) → unlike a b ≡ false → a ≡ b
    alike a b u = eqb-true a b (not-false _ u)

    same-multiplicities : length x.multiplicities ≡ t
    same-multiplicities =
        alike (length x.multiplicities) t (neither_right bad₁ (unlike (length x.multiplicities) t) not_bad₂)

    same-letters : length x.letters ≡ t
    same-letters = alike (length x.letters) t (neither_right bad₂ (unlike (length x.letters) t) not_three)

    same_positions : length x.positions ≡ length x.labelling.mapping
    same_positions =
        sym
        (alike (length x.labelling.mapping) (length x.positions)
        (neither_right bad₃ (unlike (length x.labelling.mapping) (length x.positions)) not_two))

    module _ (es zs : List code.Space) where
      abbrev e : SpaceCells
      e = lists es

      abbrev z : SpaceCells
      z = lists zs

      -- a candidate is refused
      pub prepared_out :
          length es ≡ 64 → (k : Refusal) → PrepareAllPromise x.texts e z (Err k) → LetterJudged x entry exit (Err k)
      unfolding verdict_of found_at_lem Passed HoldsAt
      prepared_out enough k promise =
          ⊎_elim
          (λ a. subst (λ n. Checked conditions₃ (Err n)) a.0
          (refuse conditions₃ 3 given a.1 (Err Coordinates) refl))
          (λ a. subst (λ n. Checked conditions₃ (Err n)) a.0
          (refuse conditions₃ 4 (pass conditions₃ 3 given a.1) a.2 (Err Diagonalisation) refl))
          (six_or_eight x.texts e z k (not_so few_texts) (not_so (spaces_room es enough))
          (prepared_refused x.texts e z k promise))

      module _ (promise : PrepareAllPromise x.texts e z (Ok tt)) where
        prepared :
            Checked (prepare_all_conditions x.texts (space_rooms e)) (Ok tt)
            × ((ss : List Space) × AreSpaces x.texts ss × HoldsSpaces e z ss)
        prepared = prepared-accepted x.texts e z promise

        abbrev ss : List Space
        ss = prepared.1.0

        are : AreSpaces x.texts ss
        are = prepared.1.1

        count : length ss ≡ t
        count = length-spaces x.texts ss are

        -- the lists of the first of them
        first_are :
            {A : Type 0} (f : code.Space → A) (v : A) (g : Space → A) (room : ℕ) → map f zs ≡ padded v (map g ss) room →
            map f (take t zs) ≡ map g ss
        first_are f v g room h =
            sym (take-map f t zs) ∙ front v (map g ss) (map f zs) room t h (length-map ss g ∙ count)

        spaces_are : lists (take t zs) ≡ cells_of_spaces ss
        spaces_are =
            let h = prepared.1.2 in
            let m = first_are (λ s. s.matrix) zero_matrix (λ (s : Space). s.matrix) (length e.matrices) h.matrices in
            let q = first_are (λ s. s.shift) zero_cells (λ (s : Space). cells_of s.shift) (length e.shifts) h.shifts in
            let d = first_are (λ s. s.d) zero_matrix (λ (s : Space). s.snf.d) (length e.ds) h.ds in
            let l = first_are (λ s. s.l) zero_matrix (λ (s : Space). s.snf.l) (length e.ls) h.ls in
            let r = first_are (λ s. s.r) zero_matrix (λ (s : Space). s.snf.r) (length e.rs) h.rs in
            (λ i. record { matrices = m i; shifts = q i; ds = d i; ls = l i; rs = r i })

        labellable_spaces : Labellable x.labelling (placed_by x (cells_of_spaces ss))
        unfolding Passed
        labellable_spaces =
            let few : t ≤ 64 = ltb-false 64 t few_texts in
            record {
              counts = neither_left bad_permutations (too_many_candidates t) not_bad₁;
              images = off _ given.1.1.0;
              positions = same_positions;
              few = omega (arith, same-multiplicities);
              letters = same-letters ∙ sym same-multiplicities;
              matrices = length-map ss (λ s. s.matrix) ∙ count ∙ sym same-multiplicities;
              shifts = length-map ss (λ s. cells_of s.shift) ∙ count ∙ sym same-multiplicities;
              ds = length-map ss (λ s. s.snf.d) ∙ count ∙ sym same-multiplicities;
              ls = length-map ss (λ s. s.snf.l) ∙ count ∙ sym same-multiplicities;
              rs = length-map ss (λ s. s.snf.r) ∙ count ∙ sym same-multiplicities;
            }

        pub labellable : Labellable x.labelling (placed_by x (lists (take t zs)))
        labellable = subst (λ s. Labellable x.labelling (placed_by x s)) (sym spaces_are) labellable_spaces

        passed : Passed conditions₃ 5
        unfolding numbered FailAll HoldsAt
        passed =
            let f = past (prepare_all_conditions x.texts (space_rooms e)) tt prepared.0 in
            pass conditions₃ 4 (pass conditions₃ 3 given f.1.0) f.1.1.0

        module _ (ls : List ℕ) (right : Labels (permutations_in x.labelling) x.labelling.mapping ls) where
          abbrev design : Found (design_from x)
          design = found_design x ss are not_two same-multiplicities same-letters ls right

          -- the letters of the step are the design's
          same-sites : sites_in (assign_by (placed_by x (cells_of_spaces ss)) ls) ≡ sites_of design
          same-sites = sites_are x ss are not_two same-multiplicities same-letters ls right

          fits_or_not :
              (w : Bool) → all_lettered (sites_in (assign_by (placed_by x (cells_of_spaces ss)) ls)) ≡ w →
              not (orbit_without_fit (sites_of design)) ≡ w
          fits_or_not w a = sym (lettered_or_unfit (sites_of design) right) ∙ ap all_lettered (sym same-sites) ∙ a

        by_labels :
            (w : Verdict) → LabelledJudged x.labelling (placed_by x (cells_of_spaces ss)) entry exit w →
            LetterJudged x entry exit w
        unfolding verdict_of found_at_lem found_none Passed HoldsAt
        by_labels w (over m) = refuse conditions₃ 5 passed (so m) (Err ListedSites) refl
        by_labels w (short m r) = refuse conditions₃ 6 (pass conditions₃ 5 passed (not_so m)) (so r) (Err Buffer) refl
        by_labels w (without m r ls right a) =
            refuse conditions₃ 7 (pass conditions₃ 6 (pass conditions₃ 5 passed (not_so m)) (not_so r)) (
              design ls right,
              so {b = orbit_without_fit (sites_of (design ls right))}
                  (not-false _ (fits_or_not ls right false a)),
            ) (Err OrbitFit) refl
        by_labels w (with_all m r ls right a h) = (
          accept conditions₃
              (pass conditions₃ 7 (pass conditions₃ 6 (pass conditions₃ 5 passed (not_so m)) (not_so r))
              (λ u. not_so {b = orbit_without_fit (sites_of (design ls right))} (not-true _ (fits_or_not ls right true a))
              (unfit_by (design ls right) u))) refl,
          (
            lettered (design ls right),
            (design ls right, refl),
            subst (HoldsLetters entry exit)
                (λ i. record { labels = ls; multiplicities = multiplicities ls; letters = letters (same-sites ls right i) })
                h,
          ),
        )

        pub prepared_in :
            (w : Verdict) → LabelledJudged x.labelling (placed_by x (lists (take t zs))) entry exit w →
            LetterJudged x entry exit w
        prepared_in w j =
            by_labels w (subst (λ s. LabelledJudged x.labelling (placed_by x s) entry exit w) spaces_are j)

-- ---- the promise

module _ (x : LetterArguments) (entry : LetterCells) where
  pub keep-accepted :
      (v : Verdict) (exit : LetterCells) → is_err v ≡ false → LetterJudged x entry exit v → LetterPromise x entry exit v
  keep-accepted (Ok u) exit told j =
      promise_accepted (letter_conditions x (letter_rooms entry)) (IsLettered x) (HoldsLetters entry exit)
      (HoldsLetters entry exit nothing_lettered)
      j.1.0 j.0 j.1.1 j.1.2
  keep-accepted (Err k) exit told j = absurd (subst T told tt)

  -- the three lists zero
  pub keep_refused :
      (v : Verdict) (mid exit : LetterCells) → is_err v ≡ true → LetterJudged x entry mid v →
      HoldsLetters entry exit nothing_lettered → LetterPromise x entry exit v
  keep_refused (Ok u) mid exit told j cleared = absurd (subst T (sym told) tt)
  keep_refused (Err k) mid exit told j cleared =
      promise_refused (letter_conditions x (letter_rooms entry)) (IsLettered x) (HoldsLetters entry exit)
      (HoldsLetters entry exit nothing_lettered) k j cleared
