-- What the pivot is: not 0, no larger than the others that are not 0, and the first of its size.
use Rattle.std.specs.Prelude.{ℕ, ◌<◌, ◌≤◌, ◌≡◌, Bool, cond, List, [], ◌∷◌, leb, eqb, nat_abs}
use Rattle.std.proofs.Math.Path.{refl}
use Rattle.std.proofs.Common.{subst}
use Rattle.std.proofs.Math.Bool.{true, false}
use Rattle.std.proofs.Math.Logic.{inl, inr}
use Rattle.std.proofs.Math.Option.{Option, none, some}
use native.Mathlib.Omega.{arith}
use borrow.Author.Tests.{eqb-true, eqb-false, leb-true, leb-false}
use Rattle.definitions.specs.Lists.{Each, Some}
use Rattle.definitions.specs.Matrix.{Matrix, at}
use Rattle.definitions.specs.Snf.{Place, places, size_at, lesser, least, pivot}
use Rattle.math_snf_laws.specs.Steps.{In, i00, i01, i02, i11, i12, i22}

pub each_map : {A : Type 0} {P Q : A → Type 0} → ((a : A) → P a → Q a) → (l : List A) → Each P l → Each Q l
unfolding Each
each_map f [] h = h
each_map f (a ∷ l) h = (f a h.0, each_map f l h.1)

pub some_each : {A : Type 0} (P : A → Type 0) {b : A} (l : List A) → Some (λ a. a ≡ b) l → Each P l → P b
unfolding Each Some
some_each P [] s h = absurd s
some_each P (a ∷ l) (inl e) h = subst P e h.0
some_each P (a ∷ l) (inr s) h = some_each P l s h.1

-- k is 0 or at least n
abbrev pub Big : ℕ → ℕ → Type 0
Big n k = 0 < k → n ≤ k

-- the head is p if it is as large
abbrev pub First : Matrix → List Place → Place → Type 0
First m [] p = Unit {0}
First m (q ∷ ps) p = size_at m q ≡ size_at m p → q ≡ p

pub record LeastAt (m : Matrix) (ps : List Place) (p : Place) : Type 0 where
  pub among : Some (λ q. q ≡ p) ps
  pub above : 0 < size_at m p
  pub big : Each (λ q. Big (size_at m p) (size_at m q)) ps
  pub first : First m ps p

abbrev pub Least : Matrix → List Place → Option Place → Type 0
Least m ps none = Each (λ q. size_at m q ≡ 0) ps
Least m ps (some p) = LeastAt m ps p

module _ (m : Matrix) (p : Place) (ps : List Place) where
  at_none : Each (λ q. size_at m q ≡ 0) ps → (b : Bool) → eqb (size_at m p) 0 ≡ b → Least m (p ∷ ps) (cond b none (some p))
  unfolding Each Some
  at_none h true e = (eqb-true (size_at m p) 0 e, h)
  at_none h false e =
      record {
        among = inl refl;
        above = omega (arith, eqb-false (size_at m p) 0 e);
        big = (λ k. omega arith, each_map (λ q z k. omega arith) ps h);
        first = λ k. refl;
      }

  at_some : (q : Place) → LeastAt m ps q → (b c : Bool) → eqb (size_at m p) 0 ≡ b → leb (size_at m p) (size_at m q) ≡ c → Least m (p ∷ ps) (cond b (some q) (cond c (some p) (some q)))
  unfolding Each Some
  at_some q h true c e f =
      let z = eqb-true (size_at m p) 0 e in
      let a = h.above in
      record {
        among = inr h.among;
        above = h.above;
        big = (λ k. omega arith, h.big);
        first = λ k. absurd (omega arith);
      }
  at_some q h false true e f =
      let z = leb-true (size_at m p) (size_at m q) f in
      record {
        among = inl refl;
        above = omega (arith, eqb-false (size_at m p) 0 e);
        big = (λ k. omega arith, each_map (λ o g k. let y = g k in omega arith) ps h.big);
        first = λ k. refl;
      }
  at_some q h false false e f =
      let z = leb-false (size_at m p) (size_at m q) f in
      record {
        among = inr h.among;
        above = h.above;
        big = (λ k. omega arith, h.big);
        first = λ k. absurd (omega arith);
      }

  least_step : (o : Option Place) → Least m ps o → Least m (p ∷ ps) (lesser m p o)
  unfolding lesser
  least_step none h = at_none h (eqb (size_at m p) 0) refl
  least_step (some q) h = at_some q h (eqb (size_at m p) 0) (leb (size_at m p) (size_at m q)) refl refl

pub least_is : (m : Matrix) (ps : List Place) → Least m ps (least m ps)
unfolding least Each
least_is m [] = tt
least_is m (p ∷ ps) = least_step m p ps (least m ps) (least_is m ps)

-- ---- over the places of a stage

pub each_at : (P : Place → Type 0) {s i j : ℕ} → In s i → In s j → Each P (places s) → P (i, j)
unfolding Each places
each_at P i00 i00 h = h.0
each_at P i00 i01 h = h.1.0
each_at P i00 i02 h = h.1.1.0
each_at P i01 i00 h = h.1.1.1.0
each_at P i01 i01 h = h.1.1.1.1.0
each_at P i01 i02 h = h.1.1.1.1.1.0
each_at P i02 i00 h = h.1.1.1.1.1.1.0
each_at P i02 i01 h = h.1.1.1.1.1.1.1.0
each_at P i02 i02 h = h.1.1.1.1.1.1.1.1.0
each_at P i11 i11 h = h.0
each_at P i11 i12 h = h.1.0
each_at P i12 i11 h = h.1.1.0
each_at P i12 i12 h = h.1.1.1.0
each_at P i22 i22 h = h.0

pub all_in : {s : ℕ} → In s s → Each (λ p. In s p.0 × In s p.1) (places s)
unfolding Each places
all_in i00 = ((i00, i00), ((i00, i01), ((i00, i02), ((i01, i00), ((i01, i01), ((i01, i02), ((i02, i00), ((i02, i01), ((i02, i02), tt)))))))))
all_in i11 = ((i11, i11), ((i11, i12), ((i12, i11), ((i12, i12), tt))))
all_in i22 = ((i22, i22), tt)

-- all that a stage's pivot is known by
pub record Chosen (s : ℕ) (m : Matrix) (p : Place) : Type 0 where
  pub row : In s p.0
  pub column : In s p.1
  pub above : 0 < size_at m p
  pub big : (i j : ℕ) → In s i → In s j → Big (size_at m p) (nat_abs (at m i j))
  pub first : nat_abs (at m s s) ≡ size_at m p → (s, s) ≡ p

corner : {s : ℕ} (m : Matrix) (p : Place) → In s s → First m (places s) p → nat_abs (at m s s) ≡ size_at m p → (s, s) ≡ p
unfolding places
corner m p i00 f = f
corner m p i11 f = f
corner m p i22 f = f

pub chosen : {s : ℕ} (m : Matrix) (p : Place) → In s s → pivot s m ≡ some p → Chosen s m p
chosen {s} m p a e =
    let h = subst (λ (o : Option Place). Least m (places s) o) e (least_is m (places s)) in
    let g = some_each (λ q. In s q.0 × In s q.1) (places s) h.among (all_in a) in
    record {
      row = g.0;
      column = g.1;
      above = h.above;
      big = λ i j x y. each_at (λ q. Big (size_at m p) (size_at m q)) x y h.big;
      first = corner m p a h.first;
    }

pub nothing : {s : ℕ} (m : Matrix) → pivot s m ≡ none → (i j : ℕ) → In s i → In s j → nat_abs (at m i j) ≡ 0
nothing {s} m e i j x y = each_at (λ q. size_at m q ≡ 0) x y (subst (λ (o : Option Place). Least m (places s) o) e (least_is m (places s)))
