-- The labels of listed sites: computed from the classes, unique, and what they say.
use Rattle.std.specs.Prelude.{ℕ, zero, suc, ◌≤◌, ◌<◌, ◌≡◌, refl, Bool, true, false, ◌↔◌, length, eqb}
use Rattle.std.proofs.Math.Path.{sym}
use Rattle.std.proofs.Common.{◌∙◌, subst, le_of_suc-le-suc, not-suc-le-zero, arith, eqb-true, eq-eqb, ext_get_or}
use mathlib.Core.List.{List, [], ◌∷◌, map, Memᴰ}
use Rattle.std.proofs.lemmas.Bool.{eqb-false}
use Rattle.std.proofs.Math.ListN.{get_or, length-map}
use Rattle.definitions.specs.Lists.{those, up_to}
use Rattle.definitions.specs.Orbit.{Joined, none, primitive_of, IsLabel, Labels, orbit, orbits}
use Rattle.definitions.specs.Demand.{JoinTheSame}
use Rattle.laws.specs.Lists.{map_at, those-up_to}
use Rattle.base_cell.specs.Joined.{joined_trans, joined_sym}
use Rattle.base_cell.specs.Classes.{Decides}

-- ---- computed

-- the place of the first c in the list
unfoldable pub place : ℕ → List ℕ → ℕ
place c [] = 0
place c (d ∷ ds) = elim (eqb d c) [ true ↦ 0 | false ↦ suc (place c ds) ]

-- for each entry the place of the first that equals it
unfoldable pub places : List ℕ → List ℕ
unfolding place
places ds = map (λ c. place c ds) ds

-- the class of each listed site
abbrev pub classes_of : List ℕ → List ℕ → List ℕ
classes_of cs mapping = map (λ s. get_or cs s 0) mapping

-- for each listed site the first listed site whose primitive site has the same class
unfoldable pub labels_by : List ℕ → List ℕ → List ℕ
unfolding places
labels_by cs mapping = places (classes_of cs mapping)

-- l is the place of the first c
pub record First (c : ℕ) (ds : List ℕ) (l : ℕ) : Type 0 where
  pub below : l < length ds
  pub at : get_or ds l 0 ≡ c
  pub least : (k : ℕ) → k < l → get_or ds k 0 ≡ c → ⊥

place_here : (c d : ℕ) (ds : List ℕ) → eqb d c ≡ true → First c (d ∷ ds) (place c (d ∷ ds))
unfolding place
place_here c d ds q = rw (q, place) (record { below = omega arith; at = eqb-true d c q; least = λ k h e. not-suc-le-zero h })

place_later : (c d : ℕ) (ds : List ℕ) → eqb d c ≡ false → First c ds (place c ds) → First c (d ∷ ds) (place c (d ∷ ds))
unfolding place
place_later c d ds q f = rw (q, place) (record { below = omega (arith, f.below); at = f.at; least = least })
  where
    least : (k : ℕ) → k < suc (place c ds) → get_or (d ∷ ds) k 0 ≡ c → ⊥
    least zero h e = eqb-false d c q e
    least (suc k) h e = f.least k (le_of_suc-le-suc h) e

place_first : (c : ℕ) (ds : List ℕ) (k : ℕ) → k < length ds → get_or ds k 0 ≡ c → First c ds (place c ds)
place_first c [] k h e = absurd (not-suc-le-zero h)
place_first c (d ∷ ds) k h e = go (eqb d c) refl k h e (λ k h e. place_first c ds k h e)
  where
    go :
        (b : Bool) → eqb d c ≡ b → (k : ℕ) → k < suc (length ds) → get_or (d ∷ ds) k 0 ≡ c →
        ((k : ℕ) → k < length ds → get_or ds k 0 ≡ c → First c ds (place c ds)) → First c (d ∷ ds) (place c (d ∷ ds))
    go true q k h e rest = place_here c d ds q
    go false q zero h e rest = absurd (eqb-false d c q e)
    go false q (suc k) h e rest = place_later c d ds q (rest k (le_of_suc-le-suc h) e)

pub first_place : (c : ℕ) (ds : List ℕ) (l : ℕ) → First c ds l → l ≡ place c ds
first_place c ds l f =
    let g = place_first c ds l f.below f.at in
    let a : l < place c ds → ⊥ = λ h. g.least l h f.at in
    let b : place c ds < l → ⊥ = λ h. f.least (place c ds) h g.at in
    omega arith

module _ (cs mapping : List ℕ) where
  pub length-labels_by : length (labels_by cs mapping) ≡ length mapping
  unfolding labels_by places
  length-labels_by = length-map (classes_of cs mapping) (λ c. place c (classes_of cs mapping)) ∙ length-map mapping (λ s. get_or cs s 0)

  -- the first place of j's class is its label
  pub labels_by_at :
      (j l : ℕ) → j < length mapping → First (get_or (classes_of cs mapping) j 0) (classes_of cs mapping) l → l ≡ get_or (labels_by cs mapping) j 0
  unfolding labels_by places
  labels_by_at j l h f =
      let ds = classes_of cs mapping in
      first_place (get_or ds j 0) ds l f
      ∙ sym (map_at (λ c. place c ds) ds j 0 0 (omega (arith, length-map mapping (λ s. get_or cs s 0))))

-- classes that decide what is joined give the labels
pub labels_by_lem :
    (n : ℕ) (ps : List (List ℕ)) (cs : List ℕ) → Decides n ps cs → (mapping : List ℕ) →
    ((k : ℕ) → k < length mapping → primitive_of mapping k < n) → Labels ps mapping (labels_by cs mapping)
unfolding labels_by places
labels_by_lem n ps cs decides mapping inside = record { each = length-map ds (λ c. place c ds) ∙ long; label = label }
  where
    ds : List ℕ
    ds = classes_of cs mapping

    long : length ds ≡ length mapping
    long = length-map mapping (λ s. get_or cs s 0)

    class : (k : ℕ) → k < length mapping → get_or ds k 0 ≡ get_or cs (primitive_of mapping k) 0
    class k h = map_at (λ s. get_or cs s 0) mapping k 0 0 h

    -- the first place of j's class
    is_label : (j l : ℕ) → j < length mapping → First (get_or ds j 0) ds l → IsLabel ps mapping j l
    is_label j l h f = record { listed = listed; joined = joined; least = least }
      where
        listed : l < length mapping
        listed = omega (arith, f.below, long)

        joined : Joined ps (primitive_of mapping l) (primitive_of mapping j)
        joined =
            (decides (primitive_of mapping l) (primitive_of mapping j) (inside l listed) (inside j h)).0
            (sym (class l listed) ∙ f.at ∙ class j h)

        least : (k : ℕ) → k < l → Joined ps (primitive_of mapping k) (primitive_of mapping j) → ⊥
        least k kl r =
            let hk : k < length mapping = omega (arith, listed) in
            f.least k kl
            (class k hk
            ∙ (decides (primitive_of mapping k) (primitive_of mapping j) (inside k hk) (inside j h)).1 r
            ∙ sym (class j h))

    label : (j : ℕ) → j < length mapping → IsLabel ps mapping j (get_or (map (λ c. place c ds) ds) j 0)
    label j h =
        let hj : j < length ds = omega (arith, long) in
        subst
        (IsLabel ps mapping j)
        (sym (map_at (λ c. place c ds) ds j 0 0 hj))
        (is_label j (place (get_or ds j 0) ds) h (place_first (get_or ds j 0) ds j hj refl))

-- ---- unique

pub label_unique : {ps : List (List ℕ)} {mapping : List ℕ} {j l m : ℕ} → IsLabel ps mapping j l → IsLabel ps mapping j m → l ≡ m
label_unique {l} {m} a b = apart (λ h. b.least l h a.joined) (λ h. a.least m h b.joined)
  where
    apart : (l < m → ⊥) → (m < l → ⊥) → l ≡ m
    apart p q = omega arith

pub labels_unique : {ps : List (List ℕ)} {mapping ls ms : List ℕ} → Labels ps mapping ls → Labels ps mapping ms → ls ≡ ms
labels_unique {ls = ls} {ms = ms} a b =
    ext_get_or 0 ls ms (a.each ∙ sym b.each)
    (λ i h. label_unique (a.label i (omega (arith, a.each))) (b.label i (omega (arith, a.each))))

-- ---- what labels say

module _ {ps : List (List ℕ)} {mapping : List ℕ} where
  -- joined sites have the same label
  pub label_moves : {i j l : ℕ} → IsLabel ps mapping i l → Joined ps (primitive_of mapping i) (primitive_of mapping j) → IsLabel ps mapping j l
  label_moves a r =
      record {
        listed = a.listed;
        joined = joined_trans a.joined r;
        least = λ k h q. a.least k h (joined_trans q (joined_sym r));
      }

  pub label_le : {j l : ℕ} → IsLabel ps mapping j l → l ≤ j
  label_le {j} {l} a = least (λ h. a.least j h none)
    where
      least : (j < l → ⊥) → l ≤ j
      least p = omega arith

tested_up_to : (f g : ℕ → ℕ) (n j : ℕ) → Memᴰ j (those (λ k. eqb (f k) (g k)) (up_to n)) ↔ ((j < n) × (f j ≡ g j))
tested_up_to f g n j = (
  λ m. let h : (j < n) × (eqb (f j) (g j) ≡ true) = (those-up_to (λ k. eqb (f k) (g k)) n j).0 m in (h.0, eqb-true (f j) (g j) h.1),
  λ h. (those-up_to (λ k. eqb (f k) (g k)) n j).1 (h.0, eq-eqb (f j) (g j) h.1),
)

-- the orbits are the sites that are their own label
pub orbits_are : (ls : List ℕ) (l : ℕ) → Memᴰ l (orbits ls) ↔ ((l < length ls) × (get_or ls l 0 ≡ l))
unfolding orbits
orbits_are ls l = tested_up_to (λ k. get_or ls k 0) (λ k. k) (length ls) l

-- the orbit of l is the sites with the label l
pub orbit_are : (ls : List ℕ) (l j : ℕ) → Memᴰ j (orbit ls l) ↔ ((j < length ls) × (get_or ls j 0 ≡ l))
unfolding orbit
orbit_are ls l j = tested_up_to (λ k. get_or ls k 0) (λ k. l) (length ls) j

module _ {ps : List (List ℕ)} {mapping ls : List ℕ} (labels : Labels ps mapping ls) where
  pub labels_le : (j : ℕ) → j < length mapping → get_or ls j 0 ≤ j
  labels_le j h = label_le (labels.label j h)

  pub labels_listed : (j : ℕ) → j < length mapping → get_or ls j 0 < length mapping
  labels_listed j h = (labels.label j h).listed

  -- two sites have the same label just if their primitive sites are joined
  pub labels_joined :
      (i j : ℕ) → i < length mapping → j < length mapping →
      (get_or ls i 0 ≡ get_or ls j 0) ↔ Joined ps (primitive_of mapping i) (primitive_of mapping j)
  labels_joined i j hi hj = (
    λ e. joined_trans (joined_sym (labels.label i hi).joined) (rw (sym e) at (labels.label j hj).joined),
    λ r. label_unique (label_moves (labels.label i hi) r) (labels.label j hj),
  )

  -- a label's label is itself
  pub labels_label : (j : ℕ) → j < length mapping → get_or ls (get_or ls j 0) 0 ≡ get_or ls j 0
  labels_label j h = (labels_joined (get_or ls j 0) j (labels_listed j h) h).1 (labels.label j h).joined

  -- the label of a site is one of the orbits
  pub labels_orbits : (j : ℕ) → j < length mapping → Memᴰ (get_or ls j 0) (orbits ls)
  labels_orbits j h = (orbits_are ls (get_or ls j 0)).1 (omega (arith, labels_listed j h, labels.each), labels_label j h)

-- ---- other permutations

-- permutations that join the same primitive sites give the same labels
pub same_joins_same_labels :
    {ps qs : List (List ℕ)} {mapping ls : List ℕ} → JoinTheSame ps qs → Labels ps mapping ls → Labels qs mapping ls
same_joins_same_labels {ps} {qs} {mapping} {ls} same a = record { each = a.each; label = λ j h. over j (get_or ls j 0) (a.label j h) }
  where
    over : (j l : ℕ) → IsLabel ps mapping j l → IsLabel qs mapping j l
    over j l b =
        record {
          listed = b.listed;
          joined = (same (primitive_of mapping l) (primitive_of mapping j)).0 b.joined;
          least = λ k h r. b.least k h ((same (primitive_of mapping k) (primitive_of mapping j)).1 r);
        }
