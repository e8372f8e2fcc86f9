-- Which point stands at the place k, that the digits of k can be computed, and what the list is in the end.
use Rattle.std.proofs.Common.{◌≡◌, ℕ, zero, suc, ◌*◌, ◌/◌, ◌%◌, ◌<◌, ◌≤◌}
use Rattle.std.proofs.Common.{List, [], ◌∷◌, ◌++◌, map, length, get_or, drop, ℤ, pos, nat_abs, sym, ap, ◌∙◌, arith}
use lib.ListN.{length-map}
use Rattle.std.specs.Prelude.{Ok}
use Rattle.definitions.specs.Refusal.{padded}
use Rattle.definitions.specs.Matrix.{Matrix, at, apply, inverse}
use Rattle.definitions.specs.Snf.{State, box, points}
use Rattle.laws.specs.Lists.{map_at}
use Rattle.base_transformation_laws.specs.Box.{length-box, box_at, positive}
use Rattle.definitions.specs.Lent.{zero_point}
use Rattle.definitions.specs.Calls.{IsSnf, PointsLent}
use Rattle.base_transformation.specs.Answers.{Ready}
use Rattle.laws.specs.Filling.{cut, padded_by}

module _ (m : Matrix) (a b c : ℕ) where
  pub box-points : length (map (apply m) (box a b c)) ≡ a * b * c
  box-points = length-map (box a b c) (apply m) ∙ length-box a b c

  -- the point p of the vector f that stands at k
  pub point_at : (k : ℕ) (f p : List ℤ) → k < a * b * c → f ≡ pos (k / (b * c)) ∷ pos (k / c % b) ∷ pos (k % c) ∷ [] → p ≡ apply m f → p ≡ get_or (map (apply m) (box a b c)) k []
  point_at k f p h e g =
      g ∙ ap (apply m) (e ∙ sym (box_at a b c k h)) ∙ sym (map_at (apply m) (box a b c) k [] [] (omega (arith, length-box a b c)))

less_by : (a n : ℕ) → 0 < a → n ≤ a * n
less_by zero n h = absurd (omega arith)
less_by (suc a) n h = omega arith

-- factors of a product that is not 0
pub factors : (a b c k : ℕ) → k < a * b * c → (0 < b) × (0 < c) × (b * c ≤ a * b * c)
factors a b c k h =
    let v : k < a * c * b = omega arith in
    let w : k < b * c * a = omega arith in
    let z = positive a b c k h in (
      positive a c b k v,
      z,
      omega (arith, less_by a (b * c) (positive b c a k w)),
    )

pub points-lent :
    (c : Matrix) (s : State) (entry exit : List (List ℤ)) → IsSnf c s → exit ≡ padded zero_point (points s) (length entry) →
    PointsLent c entry exit (Ok tt)
points-lent c s entry exit e f =
    (e.0, f ∙ ap (λ (t : State). padded zero_point (points t) (length entry)) (sym e.1))

module _ (s : State) (a b c : ℕ) (x : a ≡ nat_abs (at s.d 0 0)) (y : b ≡ nat_abs (at s.d 1 1)) (z : c ≡ nat_abs (at s.d 2 2)) (entry : List (List ℤ)) (ready : Ready s.d (length entry)) where
  pub listed_facts : (a * b * c ≤ 64) × (a * b * c ≤ length entry)
  listed_facts = rw (x, y, z) (ready.few, ready.fits)

  pub listed : (m : Matrix) (mid exit : List (List ℤ)) → m ≡ inverse s.l
      → mid ≡ map (apply m) (box a b c) ++ drop (a * b * c) entry → exit ≡ cut zero_point (a * b * c) mid → exit ≡ padded zero_point (points s) (length entry)
  unfolding points
  listed m mid exit g p q =
      padded_by zero_point (map (apply m) (box a b c)) entry exit mid (a * b * c) (box-points m a b c) listed_facts.1 p q
      ∙ ap (λ (ps : List (List ℤ)). padded zero_point ps (length entry)) (λ i. map (apply (g i)) (box (x i) (y i) (z i)))
