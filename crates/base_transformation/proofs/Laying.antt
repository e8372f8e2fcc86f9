-- Runs of m entries laid one behind the other, each in its part of a list.
use Rattle.std.proofs.Common.{◌≡◌, ℕ, ◌+◌, ◌-◌, ◌*◌, ◌<◌, ◌≤◌, List, ◌++◌, length, get_or, take, drop, sym, refl, ap, ◌∙◌, append_assoc, arith, length-drop, length-take-le, drop-drop, take_at, drop_at}
use Rattle.std.proofs.lemmas.List.{get_or-drop, get_or-take}
use Rattle.std.proofs.Math.Seq.{take-add}
use Rattle.definitions.specs.Refusal.{padded}
use Rattle.laws.specs.Filling.{put_end, cut, padded_by}
use Rattle.laws.specs.Lists.{part_room, next_part}

-- the list of n runs that is laid over `old`, and what is there before the run i
module _ {A : Type 0} (made old new : List A) (n m i : ℕ) (count : length made ≡ n * m) (room : n * m ≤ length old) (laid : new ≡ take (i * m) made ++ drop (i * m) old) where
  module _ (h : i < n) where
    fits : i * m + m ≤ n * m
    fits = part_room i n m (n * m) h refl

    -- the run i
    abbrev pub run_of : List A
    run_of = take m (drop (i * m) made)

    pub run_length : length new ≡ length old → length run_of ≡ length (take (i * m + m - i * m) (drop (i * m) new))
    run_length e =
        let k : i * m + m - i * m ≡ m = omega arith in
        let long : m ≤ length (drop (i * m) new) = omega (arith, length-drop (i * m) new, fits) in
        length-take-le m (drop (i * m) made) (omega (arith, length-drop (i * m) made, fits, count)) ∙ sym (rw k (length-take-le m (drop (i * m) new) long))

    pub in_run : (k : ℕ) → k < length run_of → k < m
    in_run k g =
        omega (arith, length-take-le m (drop (i * m) made) (omega (arith, length-drop (i * m) made, fits, count)))

    pub run_at : (k : ℕ) (d : A) → k < m → get_or run_of k d ≡ get_or made (i * m + k) d
    run_at k d g = get_or-take m (drop (i * m) made) k d g ∙ get_or-drop (i * m) made k d

    pub lay : (run : List A) → run ≡ run_of → take (i * m) new ++ (run ++ drop (i * m + m - i * m) (drop (i * m) new)) ≡ take ((i + 1) * m) made ++ drop ((i + 1) * m) old
    lay run e =
        let k : i * m + m - i * m ≡ m = omega arith in
        let s : (i + 1) * m ≡ i * m + m = sym (next_part i (i * m) m refl) in
        let front : length (take (i * m) made) ≡ i * m = length-take-le (i * m) made (omega (arith, fits, count)) in
        rw (k, laid, e, s, take_at (take (i * m) made) (drop (i * m) old) (i * m) front, drop_at (take (i * m) made) (drop (i * m) old) (i * m) front, drop-drop m (i * m) old, take-add (i * m) m made)
        (sym (append_assoc (take (i * m) made) run_of (drop (i * m + m) old)))

  -- and zero behind them
  pub laid_all : (z : A) (exit : List A) → i ≡ n → exit ≡ cut z (n * m) new → exit ≡ padded z made (length old)
  laid_all z exit h e =
      padded_by z made old exit new (n * m) count room (put_end z made old new (i * m) (n * m) laid count (ap (λ k. k * m) h)) e
