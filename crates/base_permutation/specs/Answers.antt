-- What a call answers, as an outcome.
use Rattle.std.specs.Prelude.{◌-◌, ◌≡◌, List, length, take, replicate}
use Rattle.std.proofs.Math.Seq.{take-append_seam}
use Rattle.definitions.specs.Refusal.{Condition, Returns, outcome_of, Checked, Filled}
use Rattle.definitions.specs.Refusal.{Verdict}
use Rattle.std.specs.Prelude.{Err, Ok}

-- A call that fills a lent list returns its answer in the list's first cells.
pub filled_returns : {A : Type 0} (zero : A) (cs : List Condition) (answer entry exit : List A) (v : Verdict)
    → Filled zero cs answer entry exit v → Returns cs (λ l. l ≡ answer) (outcome_of (take (length answer) exit) v)
unfolding Checked
filled_returns zero cs answer entry exit (Ok u) f = (f.0.0, rw f.1 (take-append_seam answer (replicate (length entry - length answer) zero)))
filled_returns zero cs answer entry exit (Err k) f = f.0
