-- The table of letters: after j sites it has what they give each label.
use Prim.Native.Nat.{ℕ, ◌+◌, ◌<◌}
use mathlib.Core.Path.{◌≡◌, refl, sym, ap, ◌∙◌, subst}
use mathlib.Core.Bool.{Bool, true, false}
use mathlib.Core.List.{List, [], ◌∷◌}
use mathlib.Core.Option.{Option, none, some}
use native.Mathlib.Omega.{arith}
use native.Mathlib.Numerals.{add-one}
use borrow.Author.Tests.{eqb-true, eqb-false, eq-eqb, ne_eqb}
use lib.Dec.{eqb}
use lib.ListN.{length, get_or, set, replicate, get_or-replicate}
use lib.Seq.{get_or-set_same, get_or-set_other}
use lib.Ieee.{Float}
use Rattle.definitions.specs.declared.Position.{Position}
use Rattle.definitions.specs.Lists.{first}
use Rattle.definitions.specs.Real.{RealMatrix}
use Rattle.definitions.specs.Limits.{most_listed}
use Rattle.symmetrize_wyckoff.specs.Firsts.{or_else, mapped}
use Rattle.symmetrize_wyckoff.specs.Walk.{walked}
use Rattle.symmetrize_wyckoff.specs.declared.find.Candidate.{Candidate}
use Rattle.symmetrize_wyckoff.specs.Prepared.{fits_real, found_real}
use Rattle.laws.specs.Tests.{never}
use Rattle.symmetrize_wyckoff.specs.Prepared.{found, NotesAll, is_noted}
use Rattle.std.specs.Prelude.{cond, is_some, option_map, Option as Found, Some, None, Result}
use Rattle.std.specs.List.{find}
use Rattle.std.specs.Option.{ok_or}
use Rattle.std.specs.Result.{result_ok}
use Rattle.definitions.specs.declared.Refusal.{Refusal}
use Rattle.symmetrize_match.specs.Match.{match_real}

-- ---- a candidate

module _ (basis : RealMatrix) (symprec : Float) (m : ℕ) (p : Position) (c : Candidate) where
  pub other_count : (c.multiplicity ≡ m → ⊥) → false ≡ fits_real basis symprec m p c
  unfolding fits_real
  other_count ne = rw (ne_eqb c.multiplicity m ne)

  pub same_count :
      (r : Bool) → c.multiplicity ≡ m → r ≡ is_some (match_real basis symprec c.space p) →
      r ≡ fits_real basis symprec m p c
  unfolding fits_real
  same_count r e h = rw (eq-eqb c.multiplicity m e) h

-- the first that passes, by the words of a chain of iterators
find_first :
    {A : Type 0} (t : A → Bool) (f : A → ℕ) (l : List A) → option_map f (find t l) ≡ found (mapped f (first t l))
unfolding first
find_first t f [] = refl
find_first {A} t f (a ∷ l) = by (t a) (find_first t f l)
  where
    by :
        (b : Bool) → option_map f (find t l) ≡ found (mapped f (first t l)) →
        option_map f (cond b (Some a) (find t l))
        ≡ found (mapped f (elim b as (λ (x : Bool). Option A) [ true ↦ some a | false ↦ first t l ]))
    by true e = refl
    by false e = e

pub find_found :
    (basis : RealMatrix) (symprec : Float) (m : ℕ) (p : Position) (cs : List Candidate) →
    option_map (λ (c : Candidate). c.letter) (find (fits_real basis symprec m p) cs)
    ≡ found (found_real basis symprec m p cs)
unfolding found_real
find_found basis symprec m p cs = find_first (fits_real basis symprec m p) (λ (c : Candidate). c.letter) cs

-- ---- what a cell says

pub cell_is : (o : Found ℕ) (k : Refusal) (r : Result ℕ Refusal) → r ≡ ok_or o k → o ≡ result_ok r
cell_is None k r e = sym (ap result_ok e)
cell_is (Some x) k r e = sym (ap result_ok e)

keeps : (o y : Option ℕ) → is_some (found o) ≡ true → or_else o y ≡ o
keeps none y e = absurd (never e)
keeps (some b) y e = refl

takes : (o y : Option ℕ) → is_some (found o) ≡ false → or_else o y ≡ y
takes none y e = refl
takes (some b) y e = absurd (never (sym e))

-- ---- the walk

else_none : (o : Option ℕ) → or_else o none ≡ o
else_none none = refl
else_none (some b) = refl

module _ (f : ℕ → Option ℕ) (labels : List ℕ) where
  pub nothing_noted : NotesAll (walked f labels 0) (replicate most_listed None)
  unfolding walked
  nothing_noted l h = get_or-replicate most_listed l None None h

  module _ (j : ℕ) (table : List (Found ℕ)) (noted : NotesAll (walked f labels j) table) where
    abbrev label : ℕ
    label = get_or labels j 0

    -- another label is left as it was
    others : (l : ℕ) → (label ≡ l → ⊥) → walked f labels (j + 1) l ≡ walked f labels j l
    unfolding walked
    others l ne = rw (add-one, ne_eqb label l ne) (else_none (walked f labels j l))

    same : walked f labels (j + 1) label ≡ or_else (walked f labels j label) (f j)
    unfolding walked
    same = rw (add-one, eq-eqb label label refl)

    -- the label has a letter: the site is skipped
    pub skipped : label < most_listed → is_noted table label ≡ true → NotesAll (walked f labels (j + 1)) table
    skipped b has l h = by (eqb label l) refl
      where
        here : get_or table label None ≡ found (walked f labels (j + 1) label)
        here = noted label b ∙ ap found (sym (same ∙ keeps (walked f labels j label) (f j) (ap is_some (sym (noted label b)) ∙ has)))

        by : (t : Bool) → eqb label l ≡ t → get_or table l None ≡ found (walked f labels (j + 1) l)
        by true e = subst (λ k. get_or table k None ≡ found (walked f labels (j + 1) k)) (eqb-true label l e) here
        by false e = noted l h ∙ ap found (sym (others l (eqb-false label l e)))

    -- it has none: what is found at the site is its
    pub noted_more :
        label < most_listed → length table ≡ most_listed → is_noted table label ≡ false → (r : Found ℕ) → r ≡ found (f j) →
        NotesAll (walked f labels (j + 1)) (set table label r)
    noted_more b size clear r is l h = by (eqb label l) refl
      where
        here : get_or (set table label r) label None ≡ found (walked f labels (j + 1) label)
        here =
            get_or-set_same table label r None (omega arith)
            ∙ is
            ∙ ap found (sym (same ∙ takes (walked f labels j label) (f j) (ap is_some (sym (noted label b)) ∙ clear)))

        by : (t : Bool) → eqb label l ≡ t → get_or (set table label r) l None ≡ found (walked f labels (j + 1) l)
        by true e =
            subst (λ k. get_or (set table label r) k None ≡ found (walked f labels (j + 1) k)) (eqb-true label l e) here
        by false e =
            let ne : label ≡ l → ⊥ = eqb-false label l e in
            get_or-set_other table label l r None (λ q. ne (sym q)) ∙ noted l h ∙ ap found (sym (others l ne))
