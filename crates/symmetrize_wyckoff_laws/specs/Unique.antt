-- What is found of a design has one value at the most: the spaces of its candidates, its labels, and so its sites with
-- their fits.
use Rattle.std.specs.Prelude.{ℕ, ◌≡◌, refl, List, [], ◌∷◌}
use Rattle.std.proofs.Common.{sym, ap, ap₂, ◌∙◌, subst}
use Rattle.std.proofs.Math.Path.{path_j}
use Rattle.definitions.specs.Snf.{Run}
use Rattle.math_snf_laws.specs.Unique.{run_unique}
use Rattle.definitions.specs.Coordinates.{Triplet, rows, origin_of}
use Rattle.definitions.specs.Wyckoff.{Space, IsSpace, texts_of, AreSpaces, Lettering, Found, sites_of, choices}
use Rattle.data_wyckoff_laws.specs.Reading.{read_unique}
use Rattle.definitions.specs.Orbit.{Labels, multiplicities}
use Rattle.definitions.specs.Demand.{Alike, JoinTheSame}
use Rattle.base_cell.specs.Labels.{labels_unique, same_joins_same_labels}

-- the runs of the matrices of equal trees end alike
same_end : (t u : Triplet) → t ≡ u → (r : Run (rows t)) (s : Run (rows u)) → r.third ≡ s.third
same_end t u e = path_j (λ v p. (r : Run (rows t)) (s : Run (rows v)) → r.third ≡ s.third) (λ r s. run_unique r s) e

pub space_unique : {text : List ℕ} {s s' : Space} → IsSpace text s → IsSpace text s' → s ≡ s'
space_unique {text} {s} {s'} a b = λ i. record { matrix = m i; shift = q i; snf = d i }
  where
    e : a.triplet ≡ b.triplet
    e = read_unique text a.triplet b.triplet a.reads b.reads

    m : s.matrix ≡ s'.matrix
    m = a.matrix ∙ ap rows e ∙ sym b.matrix

    q : s.shift ≡ s'.shift
    q = a.shift ∙ ap origin_of e ∙ sym b.shift

    d : s.snf ≡ s'.snf
    d = a.snf ∙ same_end a.triplet b.triplet e a.run b.run ∙ sym b.snf

pub spaces_unique : (ts : List (List ℕ)) (ss ss' : List Space) → AreSpaces ts ss → AreSpaces ts ss' → ss ≡ ss'
unfolding AreSpaces
spaces_unique [] [] [] a b = refl
spaces_unique [] [] (s ∷ ss) a b = absurd b
spaces_unique [] (s ∷ ss) ss' a b = absurd a
spaces_unique (t ∷ ts) [] ss' a b = absurd a
spaces_unique (t ∷ ts) (s ∷ ss) [] a b = absurd b
spaces_unique (t ∷ ts) (s ∷ ss) (s' ∷ ss') a b =
    ap₂ (λ x y. x ∷ y) (space_unique a.0 b.0) (spaces_unique ts ss ss' a.1 b.1)

-- the sites of a design, with labels and spaces
pub sites_unique : {g : Lettering} (f f' : Found g) → sites_of f ≡ sites_of f'
sites_unique {g} f f' =
    ap₂ (λ ls ss.
    record {
      positions = g.positions;
      labels = ls;
      multiplicities = multiplicities ls;
      basis = g.basis;
      choices = choices g.candidates ss;
      symprec = g.symprec;
    })
    (labels_unique f.are_labels f'.are_labels)
    (spaces_unique (texts_of g.candidates) f.spaces f'.spaces f.are_spaces f'.are_spaces)

-- designs that are alike, whose permutations join the same sites
pub alike_sites : {g g' : Lettering} → Alike g g' → JoinTheSame g.permutations g'.permutations → (f : Found g) (f' : Found g') → sites_of f ≡ sites_of f'
alike_sites {g} {g'} a same f f' = λ i.
    record {
      positions = a.positions i;
      labels = ls i;
      multiplicities = multiplicities (ls i);
      basis = a.basis i;
      choices = choices (a.candidates i) (ss i);
      symprec = a.symprec i;
    }
  where
    ls : f.labels ≡ f'.labels
    ls =
        labels_unique
        (same_joins_same_labels same (subst (λ m. Labels g.permutations m f.labels) a.mapping f.are_labels))
        f'.are_labels

    ss : f.spaces ≡ f'.spaces
    ss =
        spaces_unique (texts_of g'.candidates) f.spaces f'.spaces
        (subst (λ ws. AreSpaces (texts_of ws) f.spaces) a.candidates f.are_spaces) f'.are_spaces

-- one design
pub equal_sites : {g g' : Lettering} → g ≡ g' → (f : Found g) (f' : Found g') → sites_of f ≡ sites_of f'
equal_sites {g} e f f' = subst (λ h. (k : Found h) → sites_of f ≡ sites_of k) e (sites_unique f) f'
