-- A run of commands is counted up to the first place apart that has another one, or to the last whole one.
use Prim.Native.Nat.{ℕ, ◌+◌, ◌-◌, ◌*◌, ◌/◌, ◌≤◌, ◌<◌}
use mathlib.Core.Path.{◌≡◌}
use mathlib.Core.List.{List}
use native.Mathlib.Omega.{arith}
use native.Mathlib.Nat.{mul_comm}
use lib.ListN.{length, get_or}
use Rattle.std.proofs.Common.{Option, Some, None}
use Rattle.std.proofs.Math.Nat.{mul-le-mul_right, div-mul-le_self}
use Rattle.std.specs.Option.{MatchOption, unwrap_or}
use Rattle.job.specs.Places.{Run}

module _ (c w : ℕ) (bs : List ℕ) (at : ℕ) (h : at ≤ length bs) (k : 1 ≤ w) where
  abbrev whole : ℕ
  whole = (length bs - at) / w

  abbrev Meets : ℕ → Type 0
  Meets i = get_or bs (at + i * w) 0 ≡ c

  room : (n : ℕ) → n ≤ whole → at + n * w ≤ length bs
  room n l =
      let below = mul-le-mul_right w l in
      let all = div-mul-le_self (length bs - at) w in
      omega (arith, below, all)

  run_whole : ((i : ℕ) → i < whole → Meets i) → Run c w bs at whole
  run_whole m =
      let turned : whole * w ≡ w * whole = mul_comm _ _ in
      record {
        room = omega arith;
        commands = m;
        stops = λ r s. absurd (omega arith);
      }

  pub run_found :
      (r : Option ℕ) →
      MatchOption r ((i : ℕ) → 0 ≤ i → i < whole → Meets i)
      (λ n. (0 ≤ n) × (n < whole) × (Meets n → ⊥) × ((i : ℕ) → 0 ≤ i → i < n → Meets i)) →
      Run c w bs at (unwrap_or r whole)
  run_found None m = run_whole (λ i l. m i (omega arith) l)
  run_found (Some n) m =
      record {
        room = room n (omega (arith, m.1));
        commands = λ i l. m.3 i (omega arith) l;
        stops = λ r s. m.2 s;
      }
