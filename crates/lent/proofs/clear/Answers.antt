-- One more place is zero, and those behind it are as they were.
use Rattle.std.proofs.Common.{ℕ, zero, suc, ◌<◌, ◌≡◌, refl, ap, List, [], ◌∷◌, ◌++◌, length, set, drop, replicate, add-one, arith, le_of_suc-le-suc, not-suc-le-zero}
use Rattle.lent.proofs.clear.Goals as goal

one_more : {A : Type 0} (z : A) (k : ℕ) (d : List A) → k < length d → set (replicate k z ++ drop k d) k z ≡ replicate (suc k) z ++ drop (suc k) d
one_more z k [] h = absurd (not-suc-le-zero h)
one_more z zero (x ∷ d) h = refl
one_more z (suc k) (x ∷ d) h = ap (λ l. z ∷ l) (one_more z k d (le_of_suc-le-suc h))

pub loop-x-preserved : goal.loop-x-preserved
loop-x-preserved g c =
    let k = c.loop-x.x-index in
    rw (c.loop-x.invariant, add-one k, c.ZERO.ensures) (one_more g.T.Zero.ZERO k _ (omega arith))
