-- std's decimal digits are the definitions'.
use Prim.Native.Nat.{ℕ, ◌^◌, ◌≤◌, ◌<◌}
use mathlib.Core.Path.{◌≡◌, sym}
use borrow.Author.Rules.{rules}
use borrow.Author.Tests.{lt-ltb, le-ltb}
use lib.ListN.{length}
use Rattle.std.specs.Fmt.{decimal as printed}
use Rattle.std.proofs.lemmas.Fmt.{AppendsLastDigit, decimal_from_appends, length-decimal-le}
use Rattle.definitions.specs.Report.{decimal, decimal_in}

appends : AppendsLastDigit decimal_in
unfolding decimal_in
appends = record { one = λ k n h. rw (lt-ltb n 10 h, decimal_in); more = λ k n h. rw (le-ltb n 10 h, decimal_in) }

pub decimal_printed : (n : ℕ) → n < 2 ^ 64 → printed n ≡ decimal n
decimal_printed n h =
    let short : length (printed n) ≤ 20 = search (rules, length-decimal-le 20) in
    sym (decimal_from_appends decimal_in appends 20 n h short)
