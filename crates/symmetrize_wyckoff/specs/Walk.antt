-- The letter of an orbit, site by site: what the walk over the sites has noted of a label after some of them, and that
-- it is `letter_of` after all.
use Rattle.std.specs.Prelude.{ℕ, zero, suc, ◌<◌, ◌≡◌, Bool, cond, length, get_or, eqb, Float, ℤ}
use Rattle.std.proofs.Math.Path.{refl, sym, ap}
use Rattle.std.proofs.Common.{◌∙◌, arith}
use Rattle.std.proofs.Math.Bool.{true, false, not}
use mathlib.Core.List.{List, [], ◌∷◌}
use Rattle.std.proofs.Math.Option.{Option, none, some}
use Rattle.definitions.specs.declared.Position.{Position}
use Rattle.std.specs.Prelude.{Option as Found, is_some as is_fit, Some}
use Rattle.definitions.specs.declared.Fit.{Fit}
use Rattle.definitions.specs.Lists.{any, first, those, up_from, up_to}
use Rattle.definitions.specs.Real.{RealMatrix, origin}
use Rattle.definitions.specs.Orbit.{orbit}
use Rattle.definitions.specs.Transformation.{is_none}
use Rattle.definitions.specs.Wyckoff.{Space, Choice, Sites, fits_at, distance, match_from, match_of, fits125, offsets}
use Rattle.definitions.specs.Wyckoff.{candidate_for, site_fits, position_fits, site_fits_any, orbit_fits, letter_of}
use Rattle.laws.specs.Tests.{never}
use Rattle.symmetrize_wyckoff.specs.Firsts.{is_some, or_else, mapped, then_of, any_first, first_append, first_same}
use Rattle.symmetrize_wyckoff.specs.Firsts.{those-append, up_to-more}

-- ---- a fit is a match that fits

module _ (basis : RealMatrix) (symprec : Float) (s : Space) (p : Position) where
  fit_from : (k : ℕ) (os : List (List ℤ)) → any (fits_at basis symprec s p) os ≡ is_fit (match_from basis symprec s p k os)
  unfolding any match_from
  fit_from k [] = refl
  fit_from k (o ∷ os) = by (fits_at basis symprec s p o) (fit_from (suc k) os)
    where
      by :
          (b : Bool) → any (fits_at basis symprec s p) os ≡ is_fit (match_from basis symprec s p (suc k) os) →
          elim b as (λ (x : Bool). Bool) [ true ↦ true | false ↦ any (fits_at basis symprec s p) os ]
          ≡ is_fit (elim b as (λ (x : Bool). Found Fit) [
            | true ↦ Some (record { place = k; distance = distance basis s p o })
            | false ↦ match_from basis symprec s p (suc k) os
          ])
      by true e = refl
      by false e = e

  pub fits_is : fits125 basis symprec s p ≡ is_fit (match_of basis symprec s p)
  unfolding fits125 match_of
  fits_is = fit_from 0 offsets

-- ---- what a walk over the sites notes

-- f is what is found at a site. What the first j sites give the label l: the first find among the sites with that
-- label.
unfoldable pub walked : (ℕ → Option ℕ) → List ℕ → ℕ → ℕ → Option ℕ
walked f labels zero l = none
walked f labels (suc j) l = or_else (walked f labels j l) (cond (eqb (get_or labels j 0) l) (f j) none)

-- finds that agree at the sites
pub walked_same :
    (f g : ℕ → Option ℕ) (labels : List ℕ) (j l : ℕ) → ((i : ℕ) → i < j → f i ≡ g i) → walked f labels j l
    ≡ walked g labels j l
unfolding walked
walked_same f g labels zero l h = refl
walked_same f g labels (suc j) l h =
    ap (λ o. or_else o (cond (eqb (get_or labels j 0) l) (f j) none))
    (walked_same f g labels j l (λ i k. h i (omega arith)))
    ∙ ap (λ o. or_else (walked g labels j l) (cond (eqb (get_or labels j 0) l) o none)) (h j (omega arith))

-- the sites with the label l among the first j
abbrev pub sites_of_label : List ℕ → ℕ → ℕ → List ℕ
sites_of_label labels l j = those (λ i. eqb (get_or labels i 0) l) (up_to j)

-- one site more
some_find :
    (f : ℕ → Option ℕ) (b : Bool) (j : ℕ) → then_of f (first (λ i. is_some (f i)) (those (λ i. b) (j ∷ [])))
    ≡ cond b (f j) none
unfolding first those
some_find f true j = by (f j) refl
  where
    by :
        (o : Option ℕ) → f j ≡ o →
        then_of f (elim (is_some o) as (λ (x : Bool). Option ℕ) [ true ↦ some j | false ↦ none ]) ≡ o
    by none e = refl
    by (some b) e = e
some_find f false j = refl

then_else :
    (f : ℕ → Option ℕ) (l m : List ℕ) →
    then_of f (or_else (first (λ i. is_some (f i)) l) (first (λ i. is_some (f i)) m))
    ≡ or_else (then_of f (first (λ i. is_some (f i)) l)) (then_of f (first (λ i. is_some (f i)) m))
unfolding first
then_else f [] m = refl
then_else f (j ∷ l) m = by (f j) refl (then_else f l m)
  where
    t : ℕ → Bool
    t i = is_some (f i)

    head : Option ℕ → List ℕ → Option ℕ
    head o l = elim (is_some o) as (λ (x : Bool). Option ℕ) [ true ↦ some j | false ↦ first t l ]

    by :
        (o : Option ℕ) → f j ≡ o → then_of f (or_else (first t l) (first t m))
        ≡ or_else (then_of f (first t l)) (then_of f (first t m)) →
        then_of f (or_else (head o l) (first t m)) ≡ or_else (then_of f (head o l)) (then_of f (first t m))
    by none e rest = rest
    by (some b) e rest = e ∙ sym (ap (λ o. or_else o (then_of f (first t m))) e)

-- it is the find of the first of them that has one
pub walked_is :
    (f : ℕ → Option ℕ) (labels : List ℕ) (j l : ℕ) →
    walked f labels j l ≡ then_of f (first (λ i. is_some (f i)) (sites_of_label labels l j))
unfolding walked first those up_from
walked_is f labels zero l = refl
walked_is f labels (suc j) l =
    let t : ℕ → Bool = λ i. is_some (f i) in
    let q : ℕ → Bool = λ i. eqb (get_or labels i 0) l in
    ap (λ o. or_else o (cond (eqb (get_or labels j 0) l) (f j) none)) (walked_is f labels j l)
    ∙ ap (or_else (then_of f (first t (those q (up_to j))))) (sym (some_find f (eqb (get_or labels j 0) l) j))
    ∙ sym (then_else f (those q (up_to j)) (those q (j ∷ [])))
    ∙ sym (ap (then_of f) (first_append t (those q (up_to j)) (those q (j ∷ []))))
    ∙ sym (ap (λ s. then_of f (first t s)) (ap (those q) (up_to-more j) ∙ those-append q (up_to j) (j ∷ [])))

-- ---- of sites with candidates

-- what is found at the site j: the letter of the first candidate that it fits
unfoldable pub found_at : Sites → ℕ → Option ℕ
found_at g j =
    mapped (λ w. w.letter)
    (candidate_for g.basis g.symprec (get_or g.multiplicities j 0) (get_or g.positions j origin) g.choices)

mapped_some : {A B : Type 0} (f : A → B) (o : Option A) → is_some (mapped f o) ≡ is_some o
mapped_some f none = refl
mapped_some f (some a) = refl

pub fits_found : (g : Sites) (j : ℕ) → site_fits_any g j ≡ is_some (found_at g j)
unfolding site_fits_any site_fits found_at candidate_for
fits_found g j =
    let t : Choice → Bool = position_fits g.basis g.symprec (get_or g.multiplicities j 0)
    (get_or g.positions j origin) in
    any_first t g.choices ∙ sym (mapped_some (λ (w : Choice). w.letter) (first t g.choices))

-- the letter of an orbit, by what is found at its sites
module _ (g : Sites) (l : ℕ) where
  no_site : first (site_fits_any g) (orbit g.labels l) ≡ none → letter_of g l ≡ none
  unfolding letter_of
  no_site e = rw e

  module _ (j : ℕ) (e : first (site_fits_any g) (orbit g.labels l) ≡ some j) where
    abbrev chosen : Option Choice
    chosen =
        candidate_for g.basis g.symprec (get_or g.multiplicities j 0) (get_or g.positions j origin) g.choices

    no_choice : chosen ≡ none → letter_of g l ≡ found_at g j
    unfolding letter_of found_at
    no_choice c = rw (e, c)

    a_choice : (w : Choice) → chosen ≡ some w → letter_of g l ≡ found_at g j
    unfolding letter_of found_at
    a_choice w c = rw (e, c)

    at_site : letter_of g l ≡ found_at g j
    at_site = by chosen refl
      where
        by : (o : Option Choice) → chosen ≡ o → letter_of g l ≡ found_at g j
        by none c = no_choice c
        by (some w) c = a_choice w c

  pub letter_found : letter_of g l ≡ then_of (found_at g) (first (site_fits_any g) (orbit g.labels l))
  letter_found = by (first (site_fits_any g) (orbit g.labels l)) refl
    where
      by : (o : Option ℕ) → first (site_fits_any g) (orbit g.labels l) ≡ o → letter_of g l ≡ then_of (found_at g) o
      by none e = no_site e
      by (some j) e = at_site j e

  -- the walk over all sites gives it
  pub letter_walked : walked (found_at g) g.labels (length g.labels) l ≡ letter_of g l
  unfolding orbit
  letter_walked =
      walked_is (found_at g) g.labels (length g.labels) l
      ∙ ap (then_of (found_at g))
      (first_same (λ j. is_some (found_at g j)) (site_fits_any g) (orbit g.labels l) (λ j m. sym (fits_found g j)))
      ∙ sym letter_found

  -- an orbit has a letter just if it has a fit
  pub lettered_fits : not (is_none (letter_of g l)) ≡ orbit_fits g l
  unfolding orbit_fits first
  lettered_fits =
      ap (λ o. not (is_none o)) letter_found
      ∙ by (orbit g.labels l)
      ∙ sym (any_first (site_fits_any g) (orbit g.labels l))
    where
      by :
          (js : List ℕ) → not (is_none (then_of (found_at g) (first (site_fits_any g) js)))
          ≡ is_some (first (site_fits_any g) js)
      by [] = refl
      by (j ∷ js) = here (site_fits_any g j) (fits_found g j) (by js)
        where
          found : (o : Option ℕ) → true ≡ is_some o → not (is_none o) ≡ true
          found none h = absurd (never (sym h))
          found (some b) h = refl

          here :
              (b : Bool) → b ≡ is_some (found_at g j) →
              not (is_none (then_of (found_at g) (first (site_fits_any g) js))) ≡ is_some (first (site_fits_any g) js) →
              not (is_none (then_of (found_at g)
              (elim b as (λ (x : Bool). Option ℕ) [ true ↦ some j | false ↦ first (site_fits_any g) js ])))
              ≡ is_some {A = ℕ} (elim b as (λ (x : Bool). Option ℕ) [ true ↦ some j | false ↦ first (site_fits_any g) js ])
          here true e rest = found (found_at g j) e
          here false e rest = rest
