-- How the step keeps its promise: by the guard, by a table of the letters and by what was written from it.
use Prim.Native.Nat.{ℕ, suc, ◌≤◌, ◌<◌}
use mathlib.Core.Path.{◌≡◌, refl, sym, ap, ap₂, ◌∙◌, subst}
use mathlib.Core.Bool.{Bool, true, false, not, ◌&&◌}
use mathlib.Core.List.{List, [], ◌∷◌, ◌++◌, map}
use mathlib.Core.Option.{Option, none, some}
use native.Mathlib.Omega.{arith}
use lib.ListN.{length, get_or, drop, length-map}
use Rattle.definitions.specs.Limits.{most_listed}
use Rattle.definitions.specs.Lists.{all}
use Rattle.definitions.specs.Refusal.{Holds, Verdict, padded}
use Rattle.definitions.specs.Transformation.{is_none}
use Rattle.definitions.specs.Wyckoff.{letter_of, letter_or, letters}
use Rattle.definitions.specs.SiteCalls.{AssignArguments, sites_in, assignable, all_lettered, Assigned}
use Rattle.base_cell.specs.Grouping.{Below}
use Rattle.laws.specs.Filling.{cut, padded_by}
use Rattle.symmetrize_wyckoff.specs.Prepared.{Assignable}
use Rattle.symmetrize_wyckoff.specs.Prepared.{found, NotesAll, is_noted, noted_letter, Written, Walkable}
use Rattle.std.specs.Prelude.{cond, is_ok, is_some, Option as Found, None}
use Rattle.std.specs.Option.{unwrap_or}

-- ---- lists by their places

all_on : (s t : ℕ → Bool) (l : List ℕ) → ((i : ℕ) → i < length l → s (get_or l i 0) ≡ t (get_or l i 0)) → all s l ≡ all t l
unfolding all
all_on s t [] h = refl
all_on s t (a ∷ l) h =
    ap (λ b. elim b as (λ (x : Bool). Bool) [ true ↦ all s l | false ↦ false ]) (h 0 (omega arith))
    ∙ ap (λ r. elim (t a) as (λ (x : Bool). Bool) [ true ↦ r | false ↦ false ])
    (all_on s t l (λ i k. h (suc i) (omega arith)))

map_on : (f g : ℕ → ℕ) (l : List ℕ) → ((i : ℕ) → i < length l → f (get_or l i 0) ≡ g (get_or l i 0)) → map f l ≡ map g l
map_on f g [] h = refl
map_on f g (a ∷ l) h = ap₂ (λ b r. b ∷ r) (h 0 (omega arith)) (map_on f g l (λ i k. h (suc i) (omega arith)))

nothing_in : (l : List ℕ) → length l ≡ 0 → l ≡ []
nothing_in [] e = refl
nothing_in (a ∷ l) e = absurd (omega arith)

-- ---- what a cell says

has_letter : (o : Option ℕ) → is_some (found o) ≡ not (is_none o)
has_letter none = refl
has_letter (some b) = refl

its_letter : (o : Option ℕ) → unwrap_or (found o) 0 ≡ letter_or o
its_letter none = refl
its_letter (some b) = refl

-- ---- the promise

module _ (x : AssignArguments) (entry exit : List ℕ) where
  module _ (empty : length x.labels ≡ 0) where
    none_lettered : all_lettered (sites_in x) ≡ true
    unfolding all
    none_lettered = ap (all (λ l. not (is_none (letter_of (sites_in x) l)))) (nothing_in x.labels empty)

    no_letters : letters (sites_in x) ≡ []
    unfolding letters
    no_letters = ap (map (λ l. letter_or (letter_of (sites_in x) l))) (nothing_in x.labels empty)

    -- no sites
    pub none_given : assignable x (length entry) ≡ true → exit ≡ cut 0 0 entry → Assigned x entry exit true
    none_given e h =
        record {
          judged = sym (none_lettered) ∙ ap (λ b. b && all_lettered (sites_in x)) (sym e);
          letters = h ∙ ap (λ l. padded 0 l (length entry)) (sym no_letters);
        }

  module _ (ready : Assignable x) (given : assignable x (length entry) ≡ true) (table : List (Found ℕ))
      (noted : NotesAll (letter_of (sites_in x)) table) where
    cell :
        (i : ℕ) → i < length x.labels →
        get_or table (get_or x.labels i 0) None ≡ found (letter_of (sites_in x) (get_or x.labels i 0))
    cell i h = noted (get_or x.labels i 0) (omega (arith, ready.below i h, ready.listed))

    all_noted : all (is_noted table) x.labels ≡ all_lettered (sites_in x)
    all_noted =
        all_on (is_noted table) (λ l. not (is_none (letter_of (sites_in x) l))) x.labels
        (λ i h. ap is_some (cell i h) ∙ has_letter (letter_of (sites_in x) (get_or x.labels i 0)))

    letters_are : map (noted_letter table) x.labels ≡ letters (sites_in x)
    unfolding letters
    letters_are =
        map_on (noted_letter table) (λ l. letter_or (letter_of (sites_in x) l)) x.labels
        (λ i h. ap (λ c. unwrap_or c 0) (cell i h) ∙ its_letter (letter_of (sites_in x) (get_or x.labels i 0)))

    length-letters : length (letters (sites_in x)) ≡ length x.labels
    unfolding letters
    length-letters = length-map x.labels (λ l. letter_or (letter_of (sites_in x) l))

    judge :
        (w : Bool) → w ≡ all (is_noted table) x.labels → w ≡ (assignable x (length entry) && all_lettered (sites_in x))
    judge w e = e ∙ all_noted ∙ sym (ap (λ b. b && all_lettered (sites_in x)) given)

    module _ (mid : List ℕ) (v : Verdict) (wr : Written x.labels table entry mid (is_ok v)) where
      judged_so : (w : Bool) → is_ok v ≡ w → Holds 0 entry exit (cond w (letters (sites_in x)) []) → Assigned x entry exit (is_ok v)
      judged_so w e h =
          record {
            judged = judge (is_ok v) wr.judged;
            letters = subst (λ b. Holds 0 entry exit (cond b (letters (sites_in x)) [])) (sym e) h;
          }

      -- an orbit has none
      pub one_without : is_ok v ≡ false → length mid ≡ length entry → exit ≡ cut 0 0 mid → Assigned x entry exit (is_ok v)
      one_without f len h = judged_so false f (h ∙ ap (λ n. padded 0 [] n) len)

      -- all have one
      pub all_with :
          is_ok v ≡ true → length x.labels ≤ length entry → exit ≡ cut 0 (length x.labels) mid → Assigned x entry exit (is_ok v)
      all_with t room h =
          judged_so true t
          (padded_by 0 (letters (sites_in x)) entry exit mid (length x.labels) length-letters room
          (wr.written t ∙ ap (λ l. l ++ drop (length x.labels) entry) letters_are) h)

-- ---- the table

module _ (x : AssignArguments) (ready : Assignable x) where
  pub walkable : Walkable x.labels x.multiplicities x.positions
  walkable =
      record {
        listed = ready.listed;
        labels = ready.below;
        multiplicities = ready.multiplicities;
        positions = ready.positions;
      }

  -- as places of a table
  pub labels_below : Below most_listed x.labels
  labels_below k h = omega (arith, ready.below k h, ready.listed)
