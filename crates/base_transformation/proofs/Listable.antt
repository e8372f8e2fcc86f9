-- What there is room for, test by test.
use Rattle.std.proofs.Common.{◌≡◌, ℕ, ◌*◌, ◌≤◌, Bool, true, false, not, ◌&&◌, eqb, ltb, [], ◌∷◌, length, refl, ltb-false, eqb-true}
use borrow.Author.Tests.{not-false}
use Rattle.definitions.specs.Lists.{any}
use Rattle.definitions.specs.Limits.{most_sites, most_copies, too_many_sites, shorter_than}
use Rattle.definitions.specs.Lent.{unlike}
use Rattle.definitions.specs.SiteCalls.{ListingCells, listing_rooms, listable}
use Rattle.laws.specs.Lists.{none_head, none_tail}
use Rattle.laws.specs.Tests.{never}

none_of_four : (a b c d : Bool) → (not a && not b && not c && not d) ≡ true → (a ≡ false) × (b ≡ false) × (c ≡ false) × (d ≡ false)
none_of_four false false false false e = (refl, refl, refl, refl)
none_of_four false false false true e = absurd (never e)
none_of_four false false true d e = absurd (never e)
none_of_four false true c d e = absurd (never e)
none_of_four true b c d e = absurd (never e)

-- the lists have room for m copies of each of n sites
pub record Roomy (n e m : ℕ) (x : ListingCells) : Type 0 where
  pub sites : n ≤ most_sites
  pub alike : e ≡ n
  pub few : m ≤ most_copies
  pub positions : n * m ≤ length x.positions
  pub points : n * m ≤ length x.points
  pub mapping : n * m ≤ length x.mapping
  pub elements : n * m ≤ length x.elements

module _ (n e m : ℕ) (x : ListingCells) where
  abbrev short : Bool
  short = any (shorter_than (n * m)) (listing_rooms x)

  pub roomy : listable n e m (listing_rooms x) ≡ true → Roomy n e m x
  roomy h =
      let (a, b, c, d) = none_of_four (too_many_sites n) (unlike e n) (ltb most_copies m) short h in
      let t = shorter_than (n * m) in
      let p = length x.positions in
      let q = length x.points in
      let r = length x.mapping in
      let s = length x.elements in
      let d₁ = none_tail t p (q ∷ r ∷ s ∷ []) d in
      let d₂ = none_tail t q (r ∷ s ∷ []) d₁ in
      let d₃ = none_tail t r (s ∷ []) d₂ in
      record {
        sites = ltb-false most_sites n a;
        alike = eqb-true e n (not-false (eqb e n) b);
        few = ltb-false most_copies m c;
        positions = ltb-false p (n * m) (none_head t p (q ∷ r ∷ s ∷ []) d);
        points = ltb-false q (n * m) (none_head t q (r ∷ s ∷ []) d₁);
        mapping = ltb-false r (n * m) (none_head t r (s ∷ []) d₂);
        elements = ltb-false s (n * m) (none_head t s [] d₃);
      }

  pub can_list : too_many_sites n ≡ false → unlike e n ≡ false → ltb most_copies m ≡ false → short ≡ false → listable n e m (listing_rooms x) ≡ true
  can_list a b c d = rw (a, b, c, d)
