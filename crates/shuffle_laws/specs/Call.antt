-- Request M-101 of the call `shuffle`, by its promise: when it refuses, with which number, and what it leaves.
use Rattle.std.specs.Prelude.{ℕ, ◌-◌, ◌≤◌, ◌<◌, ◌≡◌, refl, Bool, true, false, List, ◌↔◌, eqb, ltb, take, drop, replicate}
use Rattle.std.proofs.Common.{sym, ap, ◌∙◌, arith, take_at, drop_at, ltb-true, ltb-false}
use Rattle.std.proofs.Math.ListN.{length}
use Rattle.std.specs.Prelude.{Err, Ok}
use Rattle.definitions.specs.declared.Refusal.{Refusal}
use Rattle.definitions.specs.declared.Refusal.TheVariants.{Counts, Buffer}
use Rattle.definitions.specs.Lists.{count}
use Rattle.definitions.specs.Refusal.{Verdict, Checked, padded}
use Rattle.definitions.specs.Shuffle.{shuffled}
use Rattle.definitions.specs.Calls.{shuffle_conditions, ShufflePromise}
use Rattle.laws.specs.Order.{numbered}
use Rattle.laws.proofs.Order.{checked_unique}
use Rattle.laws.specs.Verdicts.{untested, is_true, is_false, verdict_of, checked, same_number}
use Rattle.base_permutation.specs.Bijection.{each_once}
use Rattle.shuffle_laws.specs.Shuffled.{shuffled-permutes, length-shuffled}

-- ---- which number: n is too large, or else the room is short, or else nothing

data Decided (n room : ℕ) (v : Verdict) : Type 0 where
  larger : 256 < n → v ≡ Err Counts → Decided n room v
  short : n ≤ 256 → room < n → v ≡ Err Buffer → Decided n room v
  enough : n ≤ 256 → n ≤ room → v ≡ Ok tt → Decided n room v

decide : (n room : ℕ) (v : Verdict) → Checked (shuffle_conditions n room) v → Decided n room v
unfolding numbered verdict_of
decide n room v c = by (ltb 256 n) refl (ltb room n) refl
  where
    is : (w : Verdict) → Checked (shuffle_conditions n room) w → v ≡ w
    is w d = checked_unique (shuffle_conditions n room) tt v w c d

    by : (a : Bool) → ltb 256 n ≡ a → (b : Bool) → ltb room n ≡ b → Decided n room v
    by true e b f = larger (ltb-true 256 n e) (is (Err Counts) (checked _ (is_true e, (untested, tt)) (Err Counts) refl))
    by false e true f =
        short (ltb-false 256 n e) (ltb-true room n f)
        (is (Err Buffer) (checked _ (is_false e, (is_true f, tt)) (Err Buffer) refl))
    by false e false f =
        enough (ltb-false 256 n e) (ltb-false room n f)
        (is (Ok tt) (checked _ (is_false e, (is_false f, tt)) (Ok tt) refl))

module _ (seed n : ℕ) (entry exit : List ℕ) (v : Verdict) (p : ShufflePromise seed n entry exit v) where
  decided : Decided n (length entry) v
  decided = decide n (length entry) v p.0

  -- "A larger n is refused with 2", and nothing else is
  pub larger_refused : (v ≡ Err Counts) ↔ (256 < n)
  larger_refused = by decided
    where
      by : Decided n (length entry) v → (v ≡ Err Counts) ↔ (256 < n)
      by (larger h e) = (λ f. h, λ l. e)
      by (short h k e) = (λ f. absurd (omega (arith, same_number e f)), λ l. absurd (omega arith))
      by (enough h k e) = (λ f. absurd (omega (arith, same_number e f)), λ l. absurd (omega arith))

  -- "A lent buffer shorter than the answer": 10, where 2 does not apply
  pub short_refused : (v ≡ Err Buffer) ↔ ((n ≤ 256) × (length entry < n))
  short_refused = by decided
    where
      by : Decided n (length entry) v → (v ≡ Err Buffer) ↔ ((n ≤ 256) × (length entry < n))
      by (larger h e) = (λ f. absurd (omega (arith, same_number e f)), λ l. absurd (omega (arith, l.0)))
      by (short h k e) = (λ f. (h, k), λ l. e)
      by (enough h k e) = (λ f. absurd (omega (arith, same_number e f)), λ l. absurd (omega (arith, l.1)))

  -- nothing else is refused
  pub accepted_otherwise : (v ≡ Ok tt) ↔ ((n ≤ 256) × (n ≤ length entry))
  accepted_otherwise = by decided
    where
      by : Decided n (length entry) v → (v ≡ Ok tt) ↔ ((n ≤ 256) × (n ≤ length entry))
      by (larger h e) = (λ f. absurd (omega (arith, same_number e f)), λ l. absurd (omega (arith, l.0)))
      by (short h k e) = (λ f. absurd (omega (arith, same_number e f)), λ l. absurd (omega (arith, l.1)))
      by (enough h k e) = (λ f. (h, k), λ l. e)

  -- "After a refusal all lent output is zero"
  pub zero-after_refusal : (r : Refusal) → v ≡ Err r → exit ≡ replicate (length entry) 0
  zero-after_refusal r e =
      let all : length entry - 0 ≡ length entry = omega arith in
      p.1 ∙ rw e (ap (λ (m : ℕ). replicate m 0) all)

  -- ---- "For every seed and every n up to 256", in room that is enough

  module _ (most : n ≤ 256) (room : n ≤ length entry) where
    filled : exit ≡ padded 0 (shuffled n seed) (length entry)
    filled = p.1 ∙ rw (accepted_otherwise.1 (most, room))

    -- "it equals these rules"
    pub equals_rules : take n exit ≡ shuffled n seed
    equals_rules = rw filled (take_at (shuffled n seed) _ n (length-shuffled n seed))

    -- "and so are output entries past the answer": zero
    pub zero_behind : drop n exit ≡ replicate (length entry - n) 0
    zero_behind =
        rw filled (drop_at (shuffled n seed) _ n (length-shuffled n seed))
        ∙ ap (λ (m : ℕ). replicate (length entry - m) 0) (length-shuffled n seed)

    pub has_n_entries : length (take n exit) ≡ n
    has_n_entries = ap length equals_rules ∙ length-shuffled n seed

    -- "the list holds each number below n exactly once"
    pub holds_each_once : (k : ℕ) → k < n → count (eqb k) (take n exit) ≡ 1
    holds_each_once k h =
        ap (count (eqb k)) equals_rules ∙ each_once n (shuffled n seed) (shuffled-permutes n seed) k h

-- "the same list on every machine": whatever stood in the lent list, and however much room there was
pub same_list :
    (seed n : ℕ) (entry exit entry' exit' : List ℕ) (v v' : Verdict) → ShufflePromise seed n entry exit v →
    ShufflePromise seed n entry' exit' v' → n ≤ 256 → n ≤ length entry → n ≤ length entry' → take n exit ≡ take n exit'
same_list seed n entry exit entry' exit' v v' p q most room room' =
    equals_rules seed n entry exit v p most room ∙ sym (equals_rules seed n entry' exit' v' q most room')
