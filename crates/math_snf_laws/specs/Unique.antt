-- Laws about runs that readers of the definitions want: a matrix has one run at the most.
use Rattle.std.specs.Prelude.{ℕ, ◌≡◌, refl, Bool, true, false, List, [], ◌∷◌, ◌++◌, ℤ, T}
use Rattle.std.proofs.Common.{sym, ap, ap₂, ◌∙◌, subst, T_not}
use Rattle.std.proofs.lemmas.Bool.{false≢true}
use Rattle.std.proofs.Math.Option.{Option, none, some, none-ne-some, some-injective}
use Rattle.definitions.specs.Lists.{all, each}
use Rattle.definitions.specs.Matrix.{Matrix}
use Rattle.definitions.specs.Snf.{State, Place, pass, Stage, empty, last, again, Run, all_assigned, Leaves}
use Rattle.definitions.specs.Limits.{small}

-- two ways through a stage agree in what was assigned and in the end
abbrev pub Agree : List (List ℤ) → State → List (List ℤ) → State → Type 0
Agree a u b v = (a ≡ b) × (u ≡ v)

no_and_some : {A : Type 0} {o : Option Place} (p : Place) → o ≡ none → o ≡ some p → A
no_and_some p e f = absurd (none-ne-some p (sym e ∙ f))

same-pivot : {o : Option Place} (p q : Place) → o ≡ some p → o ≡ some q → p ≡ q
same-pivot p q e f = some-injective p q (sym e ∙ f)

-- a pass cannot update and not update
both_ways : {A : Type 0} (updates : Place → Bool) (p q : Place) → p ≡ q → updates p ≡ false → updates q ≡ true → A
both_ways updates p q e f g = absurd (false≢true (sym f ∙ ap updates e ∙ g))

pub stage_unique : {s : ℕ} {t u v : State} {a b : List (List ℤ)} → Stage s t a u → Stage s t b v → Agree a u b v
stage_unique (empty e) (empty f) = (refl, refl)
stage_unique (empty e) (last q f g) = no_and_some q e f
stage_unique (empty e) (again q f g r) = no_and_some q e f
stage_unique (last p e h) (empty f) = no_and_some p f e
stage_unique {s} {t} (last p e h) (last q f g) =
    let x = same-pivot p q e f in
    (ap (λ r. (pass s r t).assigned ∷ []) x, ap (λ r. (pass s r t).state) x)
stage_unique {s} {t} (last p e h) (again q f g r) = both_ways (λ r. (pass s r t).updated) p q (same-pivot p q e f) h g
stage_unique (again p e h r) (empty f) = no_and_some p f e
stage_unique {s} {t} (again p e h r) (last q f g) = both_ways (λ r. (pass s r t).updated) q p (same-pivot q p f e) g h
stage_unique {s} {t} (again p e h r) (again {u = w} {rest = c} q f g r') =
    let x = same-pivot p q e f in
    let i = stage_unique r (subst (λ z. Stage s (pass s z t).state c w) (sym x) r') in
    (ap₂ (λ z y. (pass s z t).assigned ∷ y) x i.0, i.1)

from : {s : ℕ} {t t' u v : State} {a b : List (List ℤ)} → t ≡ t' → Stage s t a u → Stage s t' b v → Agree a u b v
from {s} {v = v} {b = b} e r r' = stage_unique r (subst (λ z. Stage s z b v) (sym e) r')

-- two runs agree in every state and in every list of assigned entries
pub record SameRun {m : Matrix} (r r' : Run m) : Type 0 where
  pub first : Agree r.assigned₀ r.first r'.assigned₀ r'.first
  pub second : Agree r.assigned₁ r.second r'.assigned₁ r'.second
  pub third : Agree r.assigned₂ r.third r'.assigned₂ r'.third

module _ {m : Matrix} (r r' : Run m) where
  pub same-run : SameRun r r'
  same-run =
      let a = stage_unique r.stage₀ r'.stage₀ in
      let b = from a.1 r.stage₁ r'.stage₁ in
      record { first = a; second = b; third = from b.1 r.stage₂ r'.stage₂ }

  -- the same D, L and R
  pub run_unique : r.third ≡ r'.third
  run_unique = same-run.third.1

  -- the same assigned entries
  pub assigned_unique : all_assigned r ≡ all_assigned r'
  assigned_unique =
      ap₂ (λ x y. each (λ a. a) (x ++ y)) (ap₂ (λ x y. x ++ y) same-run.first.0 same-run.second.0) same-run.third.0

-- refusal 8 does not apply where one run's entries are all in range
pub stays : {m : Matrix} (r : Run m) → T (all small (all_assigned r)) → Leaves m → ⊥
stays r h (l, out) = T_not (all small (all_assigned l)) out (subst (λ x. T (all small x)) (assigned_unique r l) h)
