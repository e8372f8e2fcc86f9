-- Labels with a letter each, and orbits with a fit each: the same, where the labels are such.
use Rattle.std.specs.Prelude.{ℕ, ◌<◌, ◌≡◌, refl, Bool, true, false, not, List, [], ◌∷◌, T, length, get_or}
use Rattle.std.proofs.Common.{sym, ap, ◌∙◌, arith}
use Rattle.definitions.specs.Lists.{all, any}
use Rattle.definitions.specs.Orbit.{Labels, orbits}
use Rattle.definitions.specs.Transformation.{is_none}
use Rattle.definitions.specs.Wyckoff.{Sites, orbit_fits, orbit_without_fit, letter_of}
use Rattle.definitions.specs.SiteCalls.{all_lettered}
use Rattle.laws.specs.Tests.{true_of, so, off}
use Rattle.laws.specs.Lists.{all_mem, mem_at}
use Rattle.laws.specs.Counting.{all_of}
use Rattle.base_cell.specs.Labels.{orbits_are, labels_orbits}
use Rattle.symmetrize_wyckoff.specs.Walk.{lettered_fits}

-- what one element fails
any_not : (t : ℕ → Bool) (l : List ℕ) → any (λ a. not (t a)) l ≡ not (all t l)
unfolding any all
any_not t [] = refl
any_not t (a ∷ l) = by (t a) (any_not t l)
  where
    by :
        (b : Bool) → any (λ a. not (t a)) l ≡ not (all t l) →
        elim (not b) as (λ (x : Bool). Bool) [ true ↦ true | false ↦ any (λ a. not (t a)) l ]
        ≡ not (elim b as (λ (x : Bool). Bool) [ true ↦ all t l | false ↦ false ])
    by true e = e
    by false e = refl

all_same : (s t : ℕ → Bool) → ((a : ℕ) → s a ≡ t a) → (l : List ℕ) → all s l ≡ all t l
unfolding all
all_same s t h [] = refl
all_same s t h (a ∷ l) =
    ap (λ b. elim b as (λ (x : Bool). Bool) [ true ↦ all s l | false ↦ false ]) (h a)
    ∙ ap (λ r. elim (t a) as (λ (x : Bool). Bool) [ true ↦ r | false ↦ false ]) (all_same s t h l)

-- tests that hold each where the other does
both_ways : (a b : Bool) → (T a → T b) → (T b → T a) → a ≡ b
both_ways true b f g = sym (true_of b (f tt))
both_ways false b f g = sym (off b g)

not_not : (b : Bool) → not (not b) ≡ b
not_not true = refl
not_not false = refl

module _ (t : ℕ → Bool) {ps : List (List ℕ)} {mapping labels : List ℕ} (right : Labels ps mapping labels) where
  -- a test of every site's label is that of every orbit
  labels_all : all t labels ≡ all t (orbits labels)
  labels_all = both_ways (all t labels) (all t (orbits labels)) down up
    where
      down : T (all t labels) → T (all t (orbits labels))
      down h = so (all_of t 0 (orbits labels) at)
        where
          at : (i : ℕ) → i < length (orbits labels) → t (get_or (orbits labels) i 0) ≡ true
          at i k =
              let l = get_or (orbits labels) i 0 in
              let o = (orbits_are labels l).0 (mem_at (orbits labels) i 0 k) in
              ap t (sym o.1) ∙ true_of (t (get_or labels l 0))
              (all_mem t labels (get_or labels l 0) h (mem_at labels l 0 o.0))

      up : T (all t (orbits labels)) → T (all t labels)
      up h = so (all_of t 0 labels (λ i k.
          true_of (t (get_or labels i 0))
          (all_mem t (orbits labels) (get_or labels i 0) h (labels_orbits right i (omega (arith, right.each))))))

-- every site has a letter just if no orbit is without a fit
pub lettered_or_unfit :
    (g : Sites) {ps : List (List ℕ)} {mapping : List ℕ} → Labels ps mapping g.labels → all_lettered g
    ≡ not (orbit_without_fit g)
unfolding orbit_without_fit
lettered_or_unfit g right =
    all_same (λ l. not (is_none (letter_of g l))) (orbit_fits g) (lettered_fits g) g.labels
    ∙ labels_all (orbit_fits g) right
    ∙ sym (ap not (any_not (orbit_fits g) (orbits g.labels)) ∙ not_not (all (orbit_fits g) (orbits g.labels)))
