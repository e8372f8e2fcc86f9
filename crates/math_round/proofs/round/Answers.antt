-- One of the steps settles x, and what it says is what x is rounded to, which is nearest as x fits.
use Rattle.std.proofs.Common.{◌≡◌, refl, sym, subst, inl, inr, rules}
use Rattle.std.specs.Prelude.{◌⊎◌, Float, Option, None, Some, MatchOption, IsSome}
use Rattle.definitions.specs.Real.{round_away, IsRound}
use Rattle.math_round.specs.Nearest.{round_is_nearest}
use Rattle.math_round.specs.Cases.{Special, Nearest, Tie, StepOf}
use Rattle.math_round.proofs.OneCase.{just_one}
use Rattle.math_round.proofs.round.Goals as goal

-- of three steps, each tried where those before it settle nothing
settled :
    (x : Float) (o p q : Option Float) (P Q : Type 0) → StepOf (Special x) x o →
    MatchOption o P (λ r. p ≡ Some r) → (P → StepOf (Nearest x) x p) →
    MatchOption p Q (λ r. q ≡ Some r) → (Q → StepOf (Tie x) x q) → IsSome q
settled x o p (Some r) P Q a b n d t = refl
settled x o (Some s) None P Q a b n d t = cc
settled x (Some s) None None P Q a b n d t = cc
settled x None None None P Q a b n d t = absurd (by (just_one x).some)
  where
    by : Special x ⊎ (Nearest x ⊎ Tie x) → ⊥
    by (inl h) = a h
    by (inr (inl h)) = n b h
    by (inr (inr h)) = t d h

pub unwrap-requires : goal.unwrap-requires
unwrap-requires c =
    settled c.args.x _ _ _ _ _ c.special.ensures c.or_else.ensures (λ e. search rules) c.or_else-2.ensures (λ e. search rules)

pub returns-clause-nearest : goal.returns-clause-nearest
returns-clause-nearest c =
    let x = c.args.x in
    let e : c.unwrap.result ≡ round_away x = search rules in
    subst (IsRound x) (sym e) (round_is_nearest x (search rules))
