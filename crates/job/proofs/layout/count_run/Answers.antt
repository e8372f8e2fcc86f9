-- `count_run`: all whole ones before the first other one are met.
use Prim.Native.Nat.{ℕ, ◌+◌, ◌-◌, ◌*◌, ◌/◌, ◌≤◌, ◌<◌}
use mathlib.Core.Path.{◌≡◌, sym, subst}
use native.Mathlib.Omega.{arith}
use native.Mathlib.Nat.{mul_comm}
use lib.ListN.{length, get_or}
use Rattle.std.proofs.Common.{rules, tests, Option, Some, None}
use Rattle.std.proofs.lemmas.Iterator.{first_from_Range}
use Rattle.std.specs.Option.{MatchOption, unwrap_or}
use Rattle.job.specs.Places.{Run}
use Rattle.job.proofs.CountedRun.{run_found}
use Rattle.job.proofs.layout.count_run.Goals as goal

pub returns : goal.returns
returns c =
    let a = c.args in
    let bs = a.bytes.now in
    let whole = (length bs - a.at) / a.width in
    let p =
    first_from_Range _ _ _ c.find-other.result
    (λ n. get_or bs (a.at + n * a.width) 0 ≡ a.command → ⊥) (λ n. get_or bs (a.at + n * a.width) 0 ≡ a.command)
    c.find-other.ensures.ran
    (λ x q k. search (rules, tests)) (λ x q k. search (rules, tests)) in
    subst (Run a.command a.width bs a.at) (sym c.unwrap_or.ensures)
    (run_found a.command a.width bs a.at c.requires.0 c.requires.1 c.find-other.result p)
