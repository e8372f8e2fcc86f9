-- The order of the permutations, repeats and added products of two change nothing in what they join.
use Rattle.std.specs.Prelude.{ℕ, ◌≤◌, ◌<◌, ◌≡◌, refl, Bool, true, false, ltb, length}
use Rattle.std.proofs.Common.{sym, ◌∙◌, subst, arith, ltb-true, ltb-false}
use mathlib.Core.List.{List}
use Rattle.std.proofs.lemmas.List.{length-map}
use Rattle.definitions.specs.Permutation.{image}
use Rattle.definitions.specs.Orbit.{Step, Joined, none, forth, back}
use Rattle.definitions.specs.Demand.{JoinTheSame, JoinTheSameBelow, Rearranged, Made, given, product}
use Rattle.laws.specs.Lists.{map_at}
use Rattle.base_cell.specs.Joined.{joined_step, joined_trans, joined_by}
use Rattle.base_cell.specs.Maps.{AllMap, Permutations, permutations-map}

-- a made permutation maps n sites to themselves, and takes each to one joined with it
record Goes (n : ℕ) (ps : List (List ℕ)) (q : List ℕ) : Type 0 where
  size : length q ≡ n
  inside : (i : ℕ) → i < n → image q i < n
  joins : (i : ℕ) → i < n → Joined ps i (image q i)

goes : {n : ℕ} {ps : List (List ℕ)} → AllMap n ps → {q : List ℕ} → Made ps q → Goes n ps q
goes {n} {ps} maps (given {p} m) =
    record {
      size = (maps p m).size;
      inside = (maps p m).inside;
      joins = λ i h. joined_step (record { permutation = p; listed = m; within = omega (arith, (maps p m).size); to = refl });
    }
goes {n} {ps} maps (product {r} {s} a b) =
    let x = goes maps a in
    let y = goes maps b in
    record {
      size = length-map s (image r) ∙ y.size;
      inside = λ i h. subst (λ k. k < n) (sym (map_at (image r) s i 0 0 (omega (arith, y.size)))) (x.inside (image s i) (y.inside i h));
      joins = λ i h. subst (Joined ps i) (sym (map_at (image r) s i 0 0 (omega (arith, y.size)))) (joined_trans (y.joins i h) (x.joins (image s i) (y.inside i h)));
    }

rearranged_step : {n : ℕ} {ps qs : List (List ℕ)} → AllMap n ps → Rearranged ps qs → (i j : ℕ) → Step qs i j → Joined ps i j
rearranged_step {n} {ps} {qs} maps re i j t =
    let g = goes maps (re.known t.permutation t.listed) in
    subst (Joined ps i) t.to (g.joins i (omega (arith, t.within, g.size)))

pub rearranged_joins : (n : ℕ) {ps qs : List (List ℕ)} → Permutations n ps → Permutations n qs → Rearranged ps qs → JoinTheSame ps qs
rearranged_joins n {ps} {qs} pp pq re i j =
    (joined_by kept, joined_by (rearranged_step (permutations-map pp) re))
  where
    kept : (i j : ℕ) → Step ps i j → Joined qs i j
    kept i j s = joined_step (record { permutation = s.permutation; listed = re.kept s.permutation s.listed; within = s.within; to = s.to })

-- ---- joined below the number of sites

-- a site past the last is joined with itself alone, and the others stay among themselves
pub record Stays (n i j : ℕ) : Type 0 where
  pub within : i < n → j < n
  pub outside : n ≤ i → i ≡ j

stays_step : {n : ℕ} {ps : List (List ℕ)} → AllMap n ps → (i j : ℕ) → Step ps i j → (i < n) × (j < n)
stays_step {n} maps i j s =
    let p = maps s.permutation s.listed in
    let h = subst (λ k. i < k) p.size s.within in
    (h, subst (λ k. k < n) s.to (p.inside i h))

pub joined_stays : {n : ℕ} {ps : List (List ℕ)} → AllMap n ps → {i j : ℕ} → Joined ps i j → Stays n i j
joined_stays maps none = record { within = λ h. h; outside = λ h. refl }
joined_stays {n} maps (forth {i} {j} s r) =
    let (a, b) = stays_step maps i j s in
    let rest = joined_stays maps r in
    record { within = λ h. rest.within b; outside = λ h. absurd (omega arith) }
joined_stays {n} maps (back {i} {j} s r) =
    let (a, b) = stays_step maps j i s in
    let rest = joined_stays maps r in
    record { within = λ h. rest.within a; outside = λ h. absurd (omega arith) }

-- permutations that join the same of their own sites join the same
pub joined_below : (n : ℕ) (ps qs : List (List ℕ)) → AllMap n ps → AllMap n qs → JoinTheSameBelow n ps qs → JoinTheSame ps qs
joined_below n ps qs maps maps' same i j = (
  λ r. over ps qs maps (λ a b h g r. (same a b h g).0 r) i j r,
  λ r. over qs ps maps' (λ a b h g r. (same a b h g).1 r) i j r,
)
  where
    over : (ps qs : List (List ℕ)) → AllMap n ps → ((i j : ℕ) → i < n → j < n → Joined ps i j → Joined qs i j) → (i j : ℕ) → Joined ps i j → Joined qs i j
    over ps qs maps f i j r =
        by (ltb i n) refl
      where
        st : Stays n i j
        st = joined_stays maps r

        by : (b : Bool) → ltb i n ≡ b → Joined qs i j
        by true e = let h = ltb-true i n e in f i j h (st.within h) r
        by false e = subst (Joined qs i) (st.outside (ltb-false i n e)) none
