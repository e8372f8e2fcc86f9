-- No two verdicts are right: one number at the most applies with none before it.
use Rattle.std.specs.Prelude.{ℕ, ◌≡◌, List, T}
use Rattle.std.proofs.Math.Path.{refl, ap}
use Rattle.std.proofs.Common.{sym}
use Rattle.definitions.specs.Refusal.{Condition, Applies, NoneOf, precedence, Past, Outcome, accepted, refused, Returns, Checked, number, Verdict}
use Rattle.std.specs.Prelude.{Ok, Err}
use Rattle.laws.specs.Verdicts.{number_one}
use Rattle.laws.specs.Order.{none_of, numbered, applies_numbered, first_unique}

module _ (cs : List Condition) (t : T (numbered cs)) where
  -- Past the numbers before k and l, and each applies: they are one. No number need be the last.
  pub one_number : (k l : ℕ) → Applies cs k → Past k cs → Applies cs l → Past l cs → k ≡ l
  one_number k l a p b q = first_unique cs precedence k l (applies_numbered cs k t a) (applies_numbered cs l t b) a p b q

  -- a number that applies is not past all
  pub not_all : (k : ℕ) → Applies cs k → NoneOf cs precedence → ⊥
  not_all k a n = none_of cs precedence k (applies_numbered cs k t a) n a

  -- no two verdicts are right
  pub checked_unique : (v w : Verdict) → Checked cs v → Checked cs w → v ≡ w
  unfolding Checked Returns
  checked_unique (Ok u) (Ok w) a b = refl
  checked_unique (Ok u) (Err r) a b = absurd (not_all (number r) b.0 a.0)
  checked_unique (Err r) (Ok u) a b = absurd (not_all (number r) a.0 b.0)
  checked_unique (Err r) (Err s) a b = ap Err (number_one r s (one_number (number r) (number s) a.0 a.1 b.0 b.1))

  -- past the numbers before k, which applies: the call is refused with k, whatever comes behind it
  pub refused_first : {A : Type 0} (Is : A → Type 0) (k : ℕ) → Applies cs k → Past k cs → (o : Outcome A) → Returns cs Is o → o ≡ refused k
  unfolding Returns
  refused_first Is k a p (accepted x) r = absurd (not_all k a r.0)
  refused_first Is k a p (refused l) r = ap refused (sym (one_number k l a p r.0 r.1))
