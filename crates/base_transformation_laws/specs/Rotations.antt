-- A rotation in one basis after another, by the promise of the call `transform_rotation`: moyo's `transform_operation`
-- of a product, and of an inverse, of `UnimodularTransformation`. "In range" is refusal 3's -31..31, and all is in
-- whole numbers.
use Rattle.std.specs.Prelude.{◌≡◌, true, [], ◌∷◌, ℤ, pos, negsuc, nat_abs}
use Rattle.std.proofs.Math.Path.{refl, ap}
use Rattle.std.proofs.Common.{sym, subst, ◌∙◌}
use Rattle.std.proofs.Math.Bool.{not}
use borrow.Author.Tests.{eq-eqb}
use Rattle.std.specs.Prelude.{Result, Err, Ok}
use Rattle.definitions.specs.declared.Refusal.{Refusal}
use Rattle.definitions.specs.declared.Refusal.TheVariants.{MatrixEntry}
use Rattle.definitions.specs.Lists.{all}
use Rattle.definitions.specs.Refusal.{Verdict, Returns, Checked}
use Rattle.definitions.specs.Limits.{in_range}
use Rattle.definitions.specs.Matrix.{Matrix, identity, mul_m, transpose, det, inverse}
use Rattle.definitions.specs.Transformation.{transform_rotation}
use Rattle.definitions.specs.Calls.{transform_conditions, RotationPromise}
use Rattle.laws.specs.Order.{numbered}
use Rattle.laws.proofs.Order.{checked_unique}
use Rattle.laws.specs.Verdicts.{untested, is_true, is_false, verdict_of, checked, accepted_with}
use Rattle.math_matrix.specs.Laws.{Three, mul_assoc, identity-mul, mul-identity, mul-inverse}
use Rattle.math_matrix.specs.Laws.{det-inverse, unit-mul, inverse_product}

-- "unimodular matrices in range"
pub record UnimodularInRange (t : Matrix) : Type 0 where
  pub is_in_range : in_range t ≡ true
  pub unit : nat_abs (det t) ≡ 1

-- The call on T and R accepts with x: its promise allows that return, and no other.
pub record Accepts (t r x : Matrix) : Type 0 where
  pub promised : RotationPromise t r (Ok x)
  pub only : (o : Result Matrix Refusal) → RotationPromise t r o → o ≡ Ok x

-- ---- the call accepts

abbrev Fails : Verdict → Type 0
Fails (Ok u) = ⊥
Fails (Err k) = Unit {0}

module _ (t r : Matrix) (h : UnimodularInRange t) (g : in_range r ≡ true) where
  past : Checked (transform_conditions t r) (Ok tt)
  unfolding verdict_of
  past =
      let unimodular = eq-eqb (nat_abs (det t)) 1 h.unit in
      checked (transform_conditions t r)
      (is_false (ap not h.is_in_range), (is_false (ap not g), (is_false (ap not unimodular), tt)))
      (Ok tt) refl

  told : (o : Result Matrix Refusal) → RotationPromise t r o → o ≡ Ok (transform_rotation t r)
  unfolding numbered Checked Returns
  told (Ok x) p = ap Ok p.1
  told (Err k) p = absurd (subst Fails (checked_unique (transform_conditions t r) tt (Err k) (Ok tt) p past) tt)

  -- with T⁻¹RT
  pub accepts : Accepts t r (transform_rotation t r)
  accepts =
      let x = transform_rotation t r in
      let promised = accepted_with (transform_conditions t r) (λ (m : Matrix). m ≡ x) x past refl in
      record { promised = promised; only = told }

  -- with what it returned
  returned : (o : Result Matrix Refusal) → RotationPromise t r o → (x : Matrix) × (o ≡ Ok x) × Accepts t r x
  returned o p = (transform_rotation t r, told o p, accepts)

-- the one answer is T⁻¹RT
answer : {t r x : Matrix} → Accepts t r x → x ≡ transform_rotation t r
unfolding Returns
answer a = a.promised.1

-- ---- T⁻¹RT, in whole numbers

-- (TU)⁻¹R(TU) = U⁻¹(T⁻¹RT)U
by_product :
    (t u r : Matrix) → nat_abs (det t) ≡ 1 → nat_abs (det u) ≡ 1 →
    transform_rotation (mul_m t u) r ≡ transform_rotation u (transform_rotation t r)
by_product t u r p q =
    ap (λ (x : Matrix). mul_m (mul_m x r) (mul_m t u)) (inverse_product t u p q)
    ∙ ap (λ (x : Matrix). mul_m x (mul_m t u)) (mul_assoc (inverse u) (inverse t) r)
    ∙ sym (mul_assoc (mul_m (inverse u) (mul_m (inverse t) r)) t u)
    ∙ ap (λ (x : Matrix). mul_m x u) (mul_assoc (inverse u) (mul_m (inverse t) r) t)

by_identity : (r : Matrix) → Three r → transform_rotation identity r ≡ r
by_identity r h = mul-identity (mul_m identity r) refl ∙ identity-mul r h

-- T⁻¹(RS)T = (T⁻¹RT)(T⁻¹ST)
of_product :
    (t r s : Matrix) → nat_abs (det t) ≡ 1 →
    transform_rotation t (mul_m r s) ≡ mul_m (transform_rotation t r) (transform_rotation t s)
of_product t r s e =
    ap (λ (x : Matrix). mul_m x t) (sym (mul_assoc (inverse t) r s))
    ∙ mul_assoc (mul_m (inverse t) r) s t
    ∙ ap (mul_m (mul_m (inverse t) r)) (sym between)
    ∙ sym (mul_assoc (mul_m (inverse t) r) t (transform_rotation t s))
  where
    between : mul_m t (transform_rotation t s) ≡ mul_m s t
    between =
        ap (mul_m t) (mul_assoc (inverse t) s t)
        ∙ sym (mul_assoc t (inverse t) (mul_m s t))
        ∙ ap (λ (x : Matrix). mul_m x (mul_m s t)) (mul-inverse t e)
        ∙ identity-mul (mul_m s t) refl

identity_in_range : in_range identity ≡ true
unfolding all
identity_in_range = refl

-- ---- of the call

-- transforming by the product accepts, with what the second gives of what the first gave
by_both :
    (t u r : Matrix) → UnimodularInRange t → UnimodularInRange u → in_range (mul_m t u) ≡ true → in_range r ≡ true →
    (between : Matrix) → Accepts t r between → Accepts (mul_m t u) r (transform_rotation u between)
by_both t u r h g i j between first =
    let direct = accepts (mul_m t u) r (record { is_in_range = i; unit = unit-mul t u h.unit g.unit }) j in
    let same = by_product t u r h.unit g.unit ∙ ap (transform_rotation u) (sym (answer first)) in
    subst (Accepts (mul_m t u) r) same direct

-- "For unimodular matrices in range whose product is also in range, transforming a rotation by the first and then the
-- second equals transforming it by the product, provided the rotation between the moves is in range."
pub transformed_twice :
    (t u r : Matrix) → UnimodularInRange t → UnimodularInRange u → in_range (mul_m t u) ≡ true → in_range r ≡ true →
    (o : Result Matrix Refusal) → RotationPromise t r o →
    (between : Matrix) × (o ≡ Ok between)
    × (in_range between ≡ true → (x : Matrix) × Accepts t r between × Accepts u between x × Accepts (mul_m t u) r x)
transformed_twice t u r h g i j o p =
    let (between, e, first) = returned t r h j o p in
    (between, e, λ k. (transform_rotation u between, first, accepts u between g k, by_both t u r h g i j between first))

-- "A change and its inverse, both in range, restore the rotation, again if the rotation between them is in range": R
-- has three rows of three, as its type says.
pub transformed_back :
    (t r : Matrix) → Three r → UnimodularInRange t → in_range (inverse t) ≡ true → in_range r ≡ true →
    (o : Result Matrix Refusal) → RotationPromise t r o →
    (between : Matrix) × (o ≡ Ok between)
    × (in_range between ≡ true → Accepts t r between × Accepts (inverse t) between r)
transformed_back t r shape h g j o p =
    let one : mul_m t (inverse t) ≡ identity = mul-inverse t h.unit in
    let unit = ap nat_abs (det-inverse t h.unit) ∙ h.unit in
    let both : in_range (mul_m t (inverse t)) ≡ true = ap in_range one ∙ identity_in_range in
    let (between, e, first) = returned t r h j o p in
    let back : UnimodularInRange (inverse t) = record { is_in_range = g; unit = unit } in
    let direct = by_both t (inverse t) r h back both j between first in
    let same : transform_rotation (inverse t) between ≡ r =
    answer direct ∙ ap (λ (m : Matrix). transform_rotation m r) one ∙ by_identity r shape in
    (between, e, λ k. (first, subst (Accepts (inverse t) between) same (accepts (inverse t) between back k)))

-- "Where two rotations and their product are in range, transforming the product gives the product of the transformed
-- ones", which need not be in range.
pub product_transformed :
    (t r s : Matrix) → UnimodularInRange t → in_range r ≡ true → in_range s ≡ true → in_range (mul_m r s) ≡ true →
    (o o' : Result Matrix Refusal) → RotationPromise t r o → RotationPromise t s o' →
    (x : Matrix) × (y : Matrix) × (o ≡ Ok x) × (o' ≡ Ok y)
    × Accepts t r x × Accepts t s y × Accepts t (mul_m r s) (mul_m x y)
product_transformed t r s h i j k o o' p q =
    let (x, d, first) = returned t r h i o p in
    let (y, e, second) = returned t s h j o' q in
    let same : transform_rotation t (mul_m r s) ≡ mul_m x y =
    of_product t r s h.unit ∙ (λ n. mul_m (sym (answer first) n) (sym (answer second) n)) in
    (x, y, d, e, first, second, subst (Accepts t (mul_m r s)) same (accepts t (mul_m r s) h k))

-- ---- what the order and the premises are for, by figures

abbrev rows : (a b c d : ℤ) → Matrix
rows a b c d = (a ∷ b ∷ pos 0 ∷ []) ∷ (c ∷ d ∷ pos 0 ∷ []) ∷ (pos 0 ∷ pos 0 ∷ pos 1 ∷ []) ∷ []

-- (1,k,0), (0,1,0), (0,0,1)
abbrev shear : ℤ → Matrix
shear k = rows (pos 1) k (pos 0) (pos 1)

-- by 90 degrees about the third axis
abbrev fourfold : Matrix
fourfold = rows (pos 0) (negsuc 0) (pos 1) (pos 0)

-- by TU as by T and then U; by UT otherwise
pub order_matters :
    let t = shear (pos 1) in
    let u = transpose (shear (pos 1)) in
    (transform_rotation u (transform_rotation t fourfold) ≡ rows (negsuc 2) (negsuc 1) (pos 5) (pos 3))
    × (transform_rotation (mul_m t u) fourfold ≡ rows (negsuc 2) (negsuc 1) (pos 5) (pos 3))
    × (transform_rotation (mul_m u t) fourfold ≡ rows (negsuc 2) (negsuc 4) (pos 2) (pos 3))
order_matters = (refl, refl, refl)

-- T, T⁻¹ and TT⁻¹ in range, and the rotation between is not: the second call refuses it with 3
pub range_between_matters :
    let t = shear (pos 6) in
    UnimodularInRange t × (in_range (inverse t) ≡ true) × (in_range (mul_m t (inverse t)) ≡ true)
    × RotationPromise (inverse t) (transform_rotation t fourfold) (Err MatrixEntry)
unfolding all verdict_of Checked Returns
range_between_matters =
    let t = shear (pos 6) in
    let conditions = transform_conditions (inverse t) (transform_rotation t fourfold) in (
      record { is_in_range = refl; unit = refl },
      refl,
      refl,
      checked conditions (is_false refl, (is_true refl, (untested, tt))) (Err MatrixEntry) refl,
    )
