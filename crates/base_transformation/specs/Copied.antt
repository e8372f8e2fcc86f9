-- What an accepted call of `list_sites` gives its caller, in the lent cells: the run of each primitive site has its
-- copies, and exactly one of them for every whole translation.
use Rattle.std.specs.Prelude.{◌≡◌, ℕ, ◌+◌, ◌-◌, ◌*◌, ◌<◌, ◌≤◌, false, ltb, List, [], ◌∷◌, map, length, get_or, replicate, ℤ, pos, ◌==◌, nat_lt, slice_index, slice_index_or, Float}
use Rattle.std.proofs.Common.{sym, subst, ◌∙◌, arith}
use Rattle.std.proofs.Math.Path.{ap}
use Rattle.std.proofs.lemmas.List.{length-map}
use Rattle.std.proofs.Math.ListN.{length-replicate, get_or-replicate, get_or-append}
use borrow.Author.Tests.{ltb-false, eqb-true, eqb-false, not-false}
use Rattle.std.specs.Prelude.{Ok}
use Rattle.definitions.specs.Lists.{any}
use Rattle.definitions.specs.Limits.{copies, most_copies, too_many_sites, shorter_than}
use Rattle.definitions.specs.Lent.{position_from, cells_of, zero_cells, zero_point, unlike}
use Rattle.definitions.specs.Matrix.{Matrix}
use Rattle.definitions.specs.Real.{origin}
use Rattle.definitions.specs.Refusal.{Checked, Outcome, accepted, refused, TellsOf, Returns, padded}
use Rattle.definitions.specs.Snf.{Run, points}
use Rattle.definitions.specs.Cell.{listed_position, listed_elements}
use Rattle.definitions.specs.SiteCalls.{Listing, ListingCells, listing_rooms, HoldsListing, listing_of, list_conditions, ListAnswered, ListPromise}
use Rattle.definitions.specs.Demand.{DifferByWhole, Covers, Copy, Copies}
use Rattle.laws.specs.Lists.{map_at, length-each, each_at, place_below}
use Rattle.laws.specs.Order.{numbered, FailAll, past}
use Rattle.laws.specs.Tests.{off, neither_left, neither_right}
use Rattle.math_matrix.specs.Laws.{Three}
use Rattle.base_transformation_laws.proofs.Listed.{listing-copies}

-- the conditions that an accepted call is past
pub record ListFacts (c : Matrix) (es : List ℤ) (ps : List (List Float)) (rooms : List ℕ) : Type 0 where
  pub sites : too_many_sites (length ps) ≡ false
  pub alike : unlike (length es) (length ps) ≡ false
  pub few : ltb most_copies (copies c) ≡ false
  pub room : any (shorter_than (length ps * copies c)) rooms ≡ false
  pub copied : (0 < copies c) × (copies c ≤ most_copies)

pub list_facts : (c : Matrix) (es : List ℤ) (ps : List (List Float)) (rooms : List ℕ) → Checked (list_conditions c es ps rooms) (Ok tt) → ListFacts c es ps rooms
unfolding numbered FailAll
list_facts c es ps rooms e =
    let fails = past (list_conditions c es ps rooms) tt e in
    let counts = off _ fails.0 in
    let bad = off _ fails.1.1.1.0 in
    let few = neither_right (copies c == 0) (nat_lt most_copies (copies c)) bad in
    let some : copies c ≡ 0 → ⊥ = eqb-false _ _ (neither_left (copies c == 0) (nat_lt most_copies (copies c)) bad) in
    record {
      sites = neither_left (too_many_sites (length ps)) (unlike (length es) (length ps)) counts;
      alike = neither_right (too_many_sites (length ps)) (unlike (length es) (length ps)) counts;
      few = few;
      room = off _ fails.1.1.1.1.1.1.0;
      copied = (omega arith, ltb-false most_copies (copies c) few);
    }

-- ---- the lent cells

-- the copy k of site i stands at i × |det C| + k, with its position, its point, its primitive site and that site's
-- element; and "for every primitive site and every whole translation exactly one of that site's listed copies" differs
-- from the translation by whole conventional vectors
pub record CopiesHeld (c : Matrix) (r : Run c) (es : List ℤ) (ps : List (List Float)) (exit : ListingCells) : Type 0 where
  pub position :
      (i k : ℕ) → i < length ps → k < copies c →
      slice_index_or exit.positions (i * copies c + k) [] ≡ cells_of (listed_position c (position_from (slice_index_or ps i [])) (slice_index_or (points r.third) k []))
  pub point : (i k : ℕ) → i < length ps → k < copies c → slice_index_or exit.points (i * copies c + k) [] ≡ slice_index_or (points r.third) k []
  pub primitive : (i k : ℕ) → i < length ps → k < copies c → slice_index exit.mapping (i * copies c + k) ≡ i
  pub element : (i k : ℕ) → i < length ps → k < copies c → slice_index_or exit.elements (i * copies c + k) (pos 0) ≡ slice_index_or es i (pos 0)
  pub covers : Covers c (length ps) exit.points

-- a cell before the end of the answer is the answer's
held_at : {A : Type 0} (z d : A) (entry exit answer : List A) (j : ℕ) → exit ≡ padded z answer (length entry) → j < length answer → slice_index_or exit j d ≡ slice_index_or answer j d
held_at z d entry exit answer j e h =
    ap (λ (l : List _). get_or l j d) e ∙ get_or-append answer (replicate (length entry - length answer) z) d j h

module _ {c : Matrix} (shape : Three c) (es : List ℤ) (ps : List (List Float)) (entry exit : ListingCells) (facts : ListFacts c es ps (listing_rooms entry)) (r : Run c) (held : HoldsListing entry exit (listing_of es (map position_from ps) r)) where
  abbrev n : ℕ
  n = length ps

  abbrev m : ℕ
  m = copies c

  abbrev listing : Listing
  listing = listing_of es (map position_from ps) r

  sites : length (map position_from ps) ≡ n
  sites = length-map ps position_from

  copied : Copies c (map position_from ps) listing
  copied = listing-copies shape facts.copied.0 r es (map position_from ps)

  elements_count : length (listed_elements es m) ≡ n * m
  unfolding listed_elements
  elements_count =
      length-each (λ e. replicate m e) m (λ e. length-replicate m e) es ∙ ap (λ (k : ℕ). k * m) (eqb-true (length es) n (not-false (length es == n) facts.alike))

  module _ (i k : ℕ) (h : i < n) (g : k < m) where
    below : i * m + k < n * m
    below = place_below n m i k h g

    copy : Copy c copied.run (map position_from ps) listing i k
    copy = copied.copy i k (omega (arith, sites)) g

    position : get_or exit.positions (i * m + k) [] ≡ cells_of (listed_position c (position_from (slice_index_or ps i [])) (slice_index_or (points copied.run.third) k []))
    position =
        let in_list : i * m + k < length listing.positions = omega (arith, below, copied.positions, ap (λ (x : ℕ). x * m) sites) in
        let in_cells : i * m + k < length (map cells_of listing.positions) = omega (arith, length-map listing.positions cells_of) in
        held_at zero_cells [] entry.positions exit.positions (map cells_of listing.positions) (i * m + k) held.positions in_cells
        ∙ map_at cells_of listing.positions (i * m + k) origin [] in_list
        ∙ ap cells_of (copy.position ∙ ap (λ p. listed_position c p (slice_index_or (points copied.run.third) k [])) (map_at position_from ps i [] origin h))

    point_is : get_or exit.points (i * m + k) [] ≡ slice_index_or listing.points (i * m + k) []
    point_is =
        held_at zero_point [] entry.points exit.points listing.points (i * m + k) held.points
        (omega (arith, below, copied.points, ap (λ (x : ℕ). x * m) sites))

    primitive : get_or exit.mapping (i * m + k) 0 ≡ i
    primitive =
        held_at 0 0 entry.mapping exit.mapping listing.mapping (i * m + k) held.mapping
        (omega (arith, below, copied.mapping, ap (λ (x : ℕ). x * m) sites))
        ∙ copy.primitive

    element : get_or exit.elements (i * m + k) (pos 0) ≡ slice_index_or es i (pos 0)
    unfolding listed_elements
    element =
        let in-elements : i < length es = omega (arith, eqb-true (length es) n (not-false (length es == n) facts.alike)) in
        held_at (pos 0) (pos 0) entry.elements exit.elements listing.elements (i * m + k) held.elements (omega (arith, below, elements_count))
        ∙ each_at (λ e. replicate m e) m (λ e. length-replicate m e) es i k (pos 0) (pos 0) in-elements g
        ∙ get_or-replicate m k (slice_index_or es i (pos 0)) (pos 0) g

  covered : Covers c n exit.points
  covered i h a b d =
      let x = copied.covers i (omega (arith, sites)) a b d in
      record {
        place = x.place;
        below = x.below;
        has = subst (DifferByWhole c (a ∷ b ∷ d ∷ [])) (sym (point_is i x.place h x.below)) x.has;
        only = λ k g y. x.only k g (subst (DifferByWhole c (a ∷ b ∷ d ∷ [])) (point_is i k h g) y);
      }

  copies_held : (s : Run c) × CopiesHeld c s es ps exit
  copies_held = (
    copied.run,
    record {
      position = position;
      point = λ i k h g. point_is i k h g ∙ (copy i k h g).point;
      primitive = primitive;
      element = element;
      covers = covered;
    },
  )

-- Demand 3 in the cells that an accepted `list_sites` leaves: each primitive site's copies, none missing or twice.
pub list_sites_covers :
    {c : Matrix} → Three c → (es : List ℤ) (ps : List (List Float)) (entry exit : ListingCells) → ListPromise c es ps entry exit (Ok tt) →
    (r : Run c) × CopiesHeld c r es ps exit
unfolding Returns Checked
list_sites_covers {c} shape es ps entry exit (o, h, e) = by o h e
  where
    IsAccepted : Outcome (Unit {0}) → Type 0
    IsAccepted (accepted u) = Unit {0}
    IsAccepted (refused k) = ⊥

    by : (o : Outcome Listing) → ListAnswered c es ps entry exit o → TellsOf (λ (a : Listing). tt {0}) o (Ok tt) → (r : Run c) × CopiesHeld c r es ps exit
    by (accepted a) h e =
        let facts = list_facts c es ps (listing_rooms entry) (h.0.0, tt) in
        copies_held shape es ps entry exit facts h.0.1.0 (subst (HoldsListing entry exit) h.0.1.1 h.1)
    by (refused k) h e = absurd (subst IsAccepted (sym e) tt)
