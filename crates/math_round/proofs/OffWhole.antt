-- What a float is off a whole number, by sums alone, is what it is off the number that it is rounded to.
use Rattle.std.specs.Prelude.{zero, suc, ◌≡◌, true, false, T, pos, Float}
use Rattle.std.proofs.Common.{subst}
use Rattle.std.specs.Float.{nan, inf, fin}
use Rattle.std.specs.Float.Ieee.{binary64, add, sub, le, fits}
use Rattle.definitions.specs.Real.{round_away}
use Rattle.math_round.specs.Fraction.{least_is, greatest_is, pushed, off_whole, settles, off_number, off_zero, pushed_far, passed}

pub off_whole_is : (d : Float) → T (fits binary64 d) → settles d ≡ true → off_whole d ≡ sub binary64 d (round_away d)
unfolding le add
off_whole_is nan f h = absurd (subst (λ (z : Float). T (le z (pushed nan))) least_is (passed nan h).above)
off_whole_is (inf true) f h =
    absurd
    (subst (λ (z : Float). T (le (fin false 1 (pos 52)) z)) (pushed_far true)
    (subst (λ (z : Float). T (le z (pushed (inf true)))) least_is (passed (inf true) h).above))
off_whole_is (inf false) f h =
    absurd
    (subst (λ (z : Float). T (le z (fin false 1 (pos 53)))) (pushed_far false)
    (subst (λ (z : Float). T (le (pushed (inf false)) z)) greatest_is (passed (inf false) h).below))
off_whole_is (fin s zero e) f h = off_zero s e
off_whole_is (fin s (suc m) e) f h =
    let p = passed (fin s (suc m) e) h in
    off_number s m e f p.above p.below p.small
