-- Polynomial identities over ℤ, decided by computing: two expressions whose difference has no monomial left have the
-- same value everywhere.
use Prim.Native.Nat.{ℕ, zero, suc, compare, Ordering}
use Rattle.std.specs.Prelude.{◌≡◌, Bool, T, leb, ℤ, negsuc, ◌+ℤ◌, ◌*ℤ◌}
use Rattle.std.proofs.Math.Path.{refl, sym, ap}
use Rattle.std.proofs.Common.{◌∙◌, subst, eqb→eq}
use Rattle.std.proofs.Math.Bool.{true, false}
use mathlib.Core.List.{List, [], ◌∷◌}
use Rattle.std.proofs.Math.ListN.{get_or}
use Rattle.std.proofs.Math.Dec.{compare_is_eq}
use Rattle.std.proofs.Math.IntN.{pos, neg_ℤ, +ℤ_idl, +ℤ_idr, -ℤ-+ℤ_cancel, *ℤ_comm, zero-*ℤ, *ℤ-zero, *ℤ-one, one}
use Rattle.math_matrix.specs.Ring.{ring, +ℤ-left, *ℤ-left, +*ℤ}

infixl 6 ◌⊕◌
infixl 6 ◌⊖◌
infixl 7 ◌⊗◌
-- expressions over variables that are numbered
pub data Expr : Type 0 where
  var : ℕ → Expr
  con : ℤ → Expr
  ◌⊕◌ : Expr → Expr → Expr
  ◌⊗◌ : Expr → Expr → Expr
  minus : Expr → Expr

abbrev pub ◌⊖◌ : Expr → Expr → Expr
e ⊖ f = e ⊕ minus f

-- the value where the variable x is the item x of ρ
abbrev pub eval : List ℤ → Expr → ℤ
eval ρ (var x) = get_or ρ x (pos 0)
eval ρ (con c) = c
eval ρ (e ⊕ f) = eval ρ e +ℤ eval ρ f
eval ρ (e ⊗ f) = eval ρ e *ℤ eval ρ f
eval ρ (minus e) = neg_ℤ (eval ρ e)

-- ---- normal forms: monomials in order, each a coefficient and its variables in order

pub data Poly : Type 0 where
  none : Poly
  more : ℤ → List ℕ → Poly → Poly

abbrev put_var : ℕ → List ℕ → List ℕ
put_var x [] = x ∷ []
put_var x (y ∷ m) = elim (leb x y) [ true ↦ x ∷ y ∷ m | false ↦ y ∷ put_var x m ]

abbrev mul_vars : List ℕ → List ℕ → List ℕ
mul_vars [] n = n
mul_vars (x ∷ m) n = put_var x (mul_vars m n)

pub data Order : Type 0 where
  before : Order
  same : Order
  behind : Order

abbrev order : List ℕ → List ℕ → Order
order [] [] = same
order [] (y ∷ n) = before
order (x ∷ m) [] = behind
order (x ∷ m) (y ∷ n) = elim (compare x y) [ Ordering.lt ↦ before | Ordering.eq ↦ order m n | Ordering.gt ↦ behind ]

-- a monomial in front, unless it is 0
abbrev keep : ℤ → List ℕ → Poly → Poly
keep (pos zero) m p = p
keep (pos (suc c)) m p = more (pos (suc c)) m p
keep (negsuc c) m p = more (negsuc c) m p

abbrev put : ℤ → List ℕ → Poly → Poly
put c m none = more c m none
put c m (more d n p) = elim (order m n) [ before ↦ more c m (more d n p) | same ↦ keep (c +ℤ d) n p | behind ↦ more d n (put c m p) ]

abbrev add : Poly → Poly → Poly
add none q = q
add (more c m p) q = put c m (add p q)

-- c m p + q
abbrev add_times : ℤ → List ℕ → Poly → Poly → Poly
add_times c m none q = q
add_times c m (more d n p) q = put (c *ℤ d) (mul_vars m n) (add_times c m p q)

abbrev mul : Poly → Poly → Poly
mul none q = none
mul (more c m p) q = add_times c m q (mul p q)

abbrev opposite : Poly → Poly
opposite none = none
opposite (more c m p) = more (neg_ℤ c) m (opposite p)

abbrev pub normal : Expr → Poly
normal (var x) = more (pos 1) (x ∷ []) none
normal (con c) = keep c [] none
normal (e ⊕ f) = add (normal e) (normal f)
normal (e ⊗ f) = mul (normal e) (normal f)
normal (minus e) = opposite (normal e)

-- ---- normalising keeps the value

turned : (a b c : ℤ) → a *ℤ (b *ℤ c) ≡ a *ℤ b *ℤ c
turned a b c = simp ring

summed : (a b c : ℤ) → a +ℤ (b +ℤ c) ≡ a +ℤ b +ℤ c
summed a b c = simp ring

merged : (c d x p : ℤ) → (c +ℤ d) *ℤ x +ℤ p ≡ c *ℤ x +ℤ (d *ℤ x +ℤ p)
merged c d x p = simp ring

spread : (c d m n p q : ℤ) → c *ℤ d *ℤ (m *ℤ n) +ℤ (c *ℤ m *ℤ p +ℤ q) ≡ c *ℤ m *ℤ (d *ℤ n +ℤ p) +ℤ q
spread c d m n p q = simp ring

negated : (c m p : ℤ) → neg_ℤ c *ℤ m +ℤ neg_ℤ p ≡ neg_ℤ (c *ℤ m +ℤ p)
negated c m p = simp ring

pub one_left : (z : ℤ) → pos 1 *ℤ z ≡ z
unfolding one
one_left z = *ℤ_comm (pos 1) z ∙ *ℤ-one z

pub one_right : (z : ℤ) → z *ℤ pos 1 ≡ z
unfolding one
one_right z = *ℤ-one z

module _ (ρ : List ℤ) where
  mono : List ℕ → ℤ
  mono [] = pos 1
  mono (x ∷ m) = get_or ρ x (pos 0) *ℤ mono m

  poly : Poly → ℤ
  poly none = pos 0
  poly (more c m p) = c *ℤ mono m +ℤ poly p

  mono_put : (x : ℕ) (m : List ℕ) → mono (put_var x m) ≡ get_or ρ x (pos 0) *ℤ mono m
  unfolding mono
  mono_put x [] = refl
  mono_put x (y ∷ m) = go (mono_put x m) (leb x y)
    where
      go : mono (put_var x m) ≡ get_or ρ x (pos 0) *ℤ mono m → (b : Bool) → mono (elim b [ true ↦ x ∷ y ∷ m | false ↦ y ∷ put_var x m ]) ≡ get_or ρ x (pos 0) *ℤ (get_or ρ y (pos 0) *ℤ mono m)
      go ih true = refl
      go ih false = ap (λ z. get_or ρ y (pos 0) *ℤ z) ih ∙ *ℤ-left (get_or ρ y (pos 0)) (get_or ρ x (pos 0)) (mono m)

  mono_mul : (m n : List ℕ) → mono (mul_vars m n) ≡ mono m *ℤ mono n
  unfolding mono
  mono_mul [] n = sym (one_left (mono n))
  mono_mul (x ∷ m) n = mono_put x (mul_vars m n) ∙ ap (λ z. get_or ρ x (pos 0) *ℤ z) (mono_mul m n) ∙ turned (get_or ρ x (pos 0)) (mono m) (mono n)

  order_same : (m n : List ℕ) → order m n ≡ same → m ≡ n
  order_same [] [] e = refl
  order_same [] (y ∷ n) e = cc
  order_same (x ∷ m) [] e = cc
  order_same (x ∷ m) (y ∷ n) e = go (order_same m n) (compare x y) refl e
    where
      go : (order m n ≡ same → m ≡ n) → (o : Ordering) → compare x y ≡ o → (elim o [ Ordering.lt ↦ before | Ordering.eq ↦ order m n | Ordering.gt ↦ behind ]) ≡ same → x ∷ m ≡ y ∷ n
      go ih Ordering.lt h e = cc
      go ih Ordering.eq h e = let p : x ≡ y = eqb→eq x y (subst (λ (o : Ordering). T (compare_is_eq o)) (sym h) tt) in let q = ih e in cc
      go ih Ordering.gt h e = cc

  poly_keep : (c : ℤ) (m : List ℕ) (p : Poly) → poly (keep c m p) ≡ c *ℤ mono m +ℤ poly p
  unfolding poly
  poly_keep (pos zero) m p = sym (ap (λ z. z +ℤ poly p) (zero-*ℤ (mono m)) ∙ +ℤ_idl (poly p))
  poly_keep (pos (suc c)) m p = refl
  poly_keep (negsuc c) m p = refl

  poly_put : (c : ℤ) (m : List ℕ) (p : Poly) → poly (put c m p) ≡ c *ℤ mono m +ℤ poly p
  unfolding poly
  poly_put c m none = refl
  poly_put c m (more d n p) = go (poly_put c m p) (order m n) refl
    where
      go : poly (put c m p) ≡ c *ℤ mono m +ℤ poly p → (o : Order) → order m n ≡ o → poly (elim o [ before ↦ more c m (more d n p) | same ↦ keep (c +ℤ d) n p | behind ↦ more d n (put c m p) ]) ≡ c *ℤ mono m +ℤ (d *ℤ mono n +ℤ poly p)
      go ih before e = refl
      go ih same e = poly_keep (c +ℤ d) n p ∙ merged c d (mono n) (poly p) ∙ ap (λ k. c *ℤ mono k +ℤ (d *ℤ mono n +ℤ poly p)) (sym (order_same m n e))
      go ih behind e = ap (λ z. d *ℤ mono n +ℤ z) ih ∙ +ℤ-left (d *ℤ mono n) (c *ℤ mono m) (poly p)

  poly_add : (p q : Poly) → poly (add p q) ≡ poly p +ℤ poly q
  unfolding poly
  poly_add none q = sym (+ℤ_idl (poly q))
  poly_add (more c m p) q = poly_put c m (add p q) ∙ ap (λ z. c *ℤ mono m +ℤ z) (poly_add p q) ∙ summed (c *ℤ mono m) (poly p) (poly q)

  poly_add_times : (c : ℤ) (m : List ℕ) (p q : Poly) → poly (add_times c m p q) ≡ c *ℤ mono m *ℤ poly p +ℤ poly q
  unfolding poly
  poly_add_times c m none q = sym (ap (λ z. z +ℤ poly q) (*ℤ-zero (c *ℤ mono m)) ∙ +ℤ_idl (poly q))
  poly_add_times c m (more d n p) q =
      poly_put (c *ℤ d) (mul_vars m n) (add_times c m p q)
      ∙ ap (λ z. c *ℤ d *ℤ z +ℤ poly (add_times c m p q)) (mono_mul m n)
      ∙ ap (λ z. c *ℤ d *ℤ (mono m *ℤ mono n) +ℤ z) (poly_add_times c m p q)
      ∙ spread c d (mono m) (mono n) (poly p) (poly q)

  poly_mul : (p q : Poly) → poly (mul p q) ≡ poly p *ℤ poly q
  unfolding poly
  poly_mul none q = sym (zero-*ℤ (poly q))
  poly_mul (more c m p) q =
      poly_add_times c m q (mul p q) ∙ ap (λ z. c *ℤ mono m *ℤ poly q +ℤ z) (poly_mul p q) ∙ sym (+*ℤ (c *ℤ mono m) (poly p) (poly q))

  poly_opposite : (p : Poly) → poly (opposite p) ≡ neg_ℤ (poly p)
  unfolding poly
  poly_opposite none = refl
  poly_opposite (more c m p) = ap (λ z. neg_ℤ c *ℤ mono m +ℤ z) (poly_opposite p) ∙ negated c (mono m) (poly p)

  poly_normal : (e : Expr) → poly (normal e) ≡ eval ρ e
  unfolding poly mono
  poly_normal (var x) = +ℤ_idr (pos 1 *ℤ (get_or ρ x (pos 0) *ℤ pos 1)) ∙ one_left (get_or ρ x (pos 0) *ℤ pos 1) ∙ one_right (get_or ρ x (pos 0))
  poly_normal (con c) = poly_keep c [] none ∙ +ℤ_idr (c *ℤ pos 1) ∙ one_right c
  poly_normal (e ⊕ f) = poly_add (normal e) (normal f) ∙ ap (λ z. z +ℤ poly (normal f)) (poly_normal e) ∙ ap (λ z. eval ρ e +ℤ z) (poly_normal f)
  poly_normal (e ⊗ f) = poly_mul (normal e) (normal f) ∙ ap (λ z. z *ℤ poly (normal f)) (poly_normal e) ∙ ap (λ z. eval ρ e *ℤ z) (poly_normal f)
  poly_normal (minus e) = poly_opposite (normal e) ∙ ap neg_ℤ (poly_normal e)

abbrev is_none : Poly → Bool
is_none none = true
is_none (more c m p) = false

-- nothing is left of the difference
abbrev pub agree : Expr → Expr → Bool
agree e f = is_none (normal (e ⊖ f))

none_is : (ρ : List ℤ) (p : Poly) → T (is_none p) → poly ρ p ≡ pos 0
unfolding poly
none_is ρ none t = refl
none_is ρ (more c m p) t = absurd t

pub solve : (ρ : List ℤ) (e f : Expr) → T (agree e f) → eval ρ e ≡ eval ρ f
solve ρ e f t =
    sym (-ℤ-+ℤ_cancel (eval ρ e) (eval ρ f))
    ∙ ap (λ z. z +ℤ eval ρ f) (sym (poly_normal ρ (e ⊖ f)) ∙ none_is ρ (normal (e ⊖ f)) t)
    ∙ +ℤ_idl (eval ρ f)
