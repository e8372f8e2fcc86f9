-- The run of a matrix, found by running it: the evidence comes with the value, so nothing is assumed of the number of
-- passes that it is let.
use Rattle.std.specs.Prelude.{ℕ, zero, suc, ◌≡◌, Bool, List, ℤ}
use Rattle.std.proofs.Math.Path.{refl}
use Rattle.std.proofs.Math.Bool.{true, false}
use Rattle.std.proofs.Math.Option.{Option, none, some}
use Rattle.definitions.specs.Matrix.{Matrix}
use Rattle.definitions.specs.Snf.{State, Place, pivot, pass, Stage, empty, last, again, start, Run}

abbrev Found : ℕ → State → Type 0
Found s t = (assigned : List (List ℤ)) × (u : State) × Stage s t assigned u

more : {s : ℕ} {t : State} (p : Place) → pivot s t.d ≡ some p → (pass s p t).updated ≡ true → Option (Found s (pass s p t).state) → Option (Found s t)
more p e b none = none
more p e b (some f) = some (_, _, again p e b f.2)

module _ (s : ℕ) (t : State) (go_on : (u : State) → Option (Found s u)) where
  at_pass : (p : Place) (b : Bool) → pivot s t.d ≡ some p → (pass s p t).updated ≡ b → Option (Found s t)
  unfolding more
  at_pass p true e h = more p e h (go_on (pass s p t).state)
  at_pass p false e h = some (_, _, last p e h)

  at_pivot : (o : Option Place) → pivot s t.d ≡ o → Option (Found s t)
  unfolding at_pass
  at_pivot none e = some (_, _, empty e)
  at_pivot (some p) e = at_pass p (pass s p t).updated e refl

-- the stage s from t, in n passes at most
unfoldable pub stage : ℕ → (s : ℕ) (t : State) → Option (Found s t)
unfolding at_pivot
stage zero s t = none
stage (suc n) s t = at_pivot s t (λ u. stage n s u) (pivot s t.d) refl

by_second : {m : Matrix} (a : Found 0 (start m)) (b : Found 1 a.1) → Option (Found 2 b.1) → Option (Run m)
by_second a b none = none
by_second a b (some c) =
    some (record { first = a.1; second = b.1; third = c.1; assigned₀ = a.0; assigned₁ = b.0; assigned₂ = c.0; stage₀ = a.2; stage₁ = b.2; stage₂ = c.2 })

by_first : {m : Matrix} (n : ℕ) (a : Found 0 (start m)) → Option (Found 1 a.1) → Option (Run m)
unfolding by_second stage
by_first n a none = none
by_first n a (some b) = by_second a b (stage n 2 b.1)

by_start : {m : Matrix} (n : ℕ) → Option (Found 0 (start m)) → Option (Run m)
unfolding by_first stage
by_start n none = none
by_start n (some a) = by_first n a (stage n 1 a.1)

-- the run of m, a stage in n passes at most
unfoldable pub run : ℕ → (m : Matrix) → Option (Run m)
unfolding by_start stage
run n m = by_start n (stage n 0 (start m))
