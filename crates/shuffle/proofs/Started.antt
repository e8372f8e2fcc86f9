-- What the call has of `identity`'s promise where that accepts: 0 to n - 1 stand in front, and the zeros behind them
-- stay.
use Rattle.std.proofs.Common.{◌≡◌, ℕ, ◌-◌, ◌≤◌, List, ◌++◌, length, take, drop, replicate, sym, ap, ◌∙◌, arith, length-append, take_at, drop_at}
use Rattle.std.specs.Prelude.{Ok}
use Rattle.definitions.specs.Lists.{up_to}
use Rattle.definitions.specs.Refusal.{Lent}
use Rattle.definitions.specs.Shuffle.{swap_down, shuffled}
use Rattle.laws.specs.Counting.{length-up_to}
use Rattle.shuffle_laws.specs.Shuffled.{length-shuffled}

module _ (n seed : ℕ) (entry exit : List ℕ) (held : Lent 0 (up_to n) entry exit (Ok tt)) where
  zeros : List ℕ
  zeros = replicate (length entry - length (up_to n)) 0

  start : exit ≡ up_to n ++ zeros
  unfolding zeros
  start = held

  pub long : n ≤ length exit
  long = omega (arith, ap length start, length-append (up_to n) zeros, length-up_to n)

  pub shuffled_there :
      (list : List ℕ) → list ≡ swap_down (length (take n exit) - 1) seed (take n exit) →
      Lent 0 (shuffled n seed) entry (list ++ drop n exit) (Ok tt)
  unfolding zeros shuffled
  shuffled_there list done =
      let front : take n exit ≡ up_to n = rw start (take_at (up_to n) zeros n (length-up_to n)) in
      let behind : drop n exit ≡ zeros = rw start (drop_at (up_to n) zeros n (length-up_to n)) in
      let made : list ≡ shuffled n seed = done ∙ rw (front, length-up_to n) in
      let rest : length (up_to n) ≡ length (shuffled n seed) = length-up_to n ∙ sym (length-shuffled n seed) in
      rw (made, behind, rest)
