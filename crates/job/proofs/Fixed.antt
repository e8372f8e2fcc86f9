-- Readers of a fixed width, by places: what they read at a place, and that they read nothing where the bytes end before.
use Prim.Native.Nat.{ℕ, zero, suc, ◌+◌, ◌*◌, ◌≤◌, ◌<◌}
use mathlib.Core.Path.{◌≡◌, refl, sym, ap, ◌∙◌}
use mathlib.Core.Bool.{Bool, true, false}
use mathlib.Core.List.{List, [], ◌∷◌}
use mathlib.Core.Option.{Option, none, some, bind}
use mathlib.Core.Logic.{◌⊎◌, inl, inr, ⊎_elim}
use native.Mathlib.Omega.{arith}
use native.Mathlib.Numerals.{add-one}
use lib.ListN.{length, get_or, drop, drop_of_length-le}
use lib.Seq.{drop-cons}
use lib.Dec.{leb}
use borrow.Author.Tests.{leb-true, leb-false}
use Rattle.definitions.specs.Limits.{text_bytes}
use Rattle.job_laws.specs.Reader.{Reader, mapped, ◌then◌, mapped_forth, then_forth, place, number, integer, from_complement, times}
use Rattle.job_laws.specs.Decode.{read_floats, read_entries, read_site, read_operation, read_candidate}
use Rattle.job.specs.Places.{word_at, integer_at, items, floats_at, entries_at, site_at, operation_at, candidate_at}

-- the reader r takes w bytes and makes of them what f says
pub record Fixed {A : Type 0} (r : Reader A) (w : ℕ) (f : List ℕ → ℕ → A) : Type 0 where
  pub whole : (bs : List ℕ) (at : ℕ) → at + w ≤ length bs → r (drop at bs) ≡ some (f bs at, drop (at + w) bs)
  pub cut : (bs : List ℕ) (at : ℕ) → at ≤ length bs → length bs < at + w → r (drop at bs) ≡ none

pub within : (a b : ℕ) → (a ≤ b) ⊎ (b < a)
within a b = by (leb a b) refl
  where
    by : (t : Bool) → leb a b ≡ t → (a ≤ b) ⊎ (b < a)
    by true e = inl (leb-true a b e)
    by false e = inr (leb-false a b e)

module _ {A B : Type 0} where
  pub mapped_none : (g : A → B) (r : Reader A) {bs : List ℕ} → r bs ≡ none → mapped g r bs ≡ none
  unfolding mapped bind
  mapped_none g r e = rw e

  pub then_none : (p : Reader A) (q : Reader B) {bs : List ℕ} → p bs ≡ none → (p then q) bs ≡ none
  unfolding ◌then◌ bind
  then_none p q e = rw e

  pub then_cut : (p : Reader A) (q : Reader B) {bs k : List ℕ} {a : A} → p bs ≡ some (a, k) → q k ≡ none → (p then q) bs ≡ none
  unfolding ◌then◌ bind
  then_cut p q e₁ e₂ = rw (e₁, e₂)

  pub fixed_mapped : {r : Reader A} {w : ℕ} {f : List ℕ → ℕ → A} (g : A → B) → Fixed r w f → Fixed (mapped g r) w (λ bs at. g (f bs at))
  fixed_mapped {r} g i =
      record {
        whole = λ bs at h. mapped_forth g r (i.whole bs at h);
        cut = λ bs at h k. mapped_none g r (i.cut bs at h k);
      }

  pub fixed_then :
      {p : Reader A} {q : Reader B} {v w : ℕ} {f : List ℕ → ℕ → A} {g : List ℕ → ℕ → B} →
      Fixed p v f → Fixed q w g → Fixed (p then q) (v + w) (λ bs at. (f bs at, g bs (at + v)))
  fixed_then {p} {q} {v} {w} {f} {g} i j =
      record {
        whole = λ bs at h.
            let end : at + v + w ≡ at + (v + w) = omega arith in
            then_forth p q (i.whole bs at (omega arith)) (j.whole bs (at + v) (omega arith) ∙ ap (λ (e : ℕ). some (g bs (at + v), drop e bs)) end);
        cut = λ bs at h k.
            ⊎_elim
            (λ l. then_cut p q (i.whole bs at l) (j.cut bs (at + v) l (omega arith)))
            (λ l. then_none p q (i.cut bs at h l))
            (within (at + v) (length bs));
      }

-- ---- operands

-- the byte at a place, and those behind it
pub byte_at : (bs : List ℕ) (at : ℕ) → at < length bs → drop at bs ≡ get_or bs at 0 ∷ drop (at + 1) bs
byte_at bs at h = drop-cons bs at 0 h ∙ ap (λ (n : ℕ). get_or bs at 0 ∷ drop n bs) (sym (add-one at))

pub fixed_number : (n : ℕ) → Fixed (number n) n (word_at n)
unfolding number word_at
fixed_number zero =
    record {
      whole = λ bs at h. let end : at ≡ at + 0 = omega arith in ap (λ (e : ℕ). some (0, drop e bs)) end;
      cut = λ bs at h k. absurd (omega arith);
    }
fixed_number (suc n) =
    record {
      whole = λ bs at h.
          let below : at < length bs = omega arith in
          let end : at + 1 + n ≡ at + suc n = omega arith in
          ap (number (suc n)) (byte_at bs at below)
          ∙ mapped_forth (place (get_or bs at 0)) (number n) ((fixed_number n).whole bs (at + 1) (omega arith))
          ∙ ap (λ (e : ℕ). some (word_at (suc n) bs at, drop e bs)) end;
      cut = λ bs at h k.
          ⊎_elim
          (λ l. ap (number (suc n)) (drop_of_length-le bs l))
          (λ l. ap (number (suc n)) (byte_at bs at l) ∙ mapped_none (place (get_or bs at 0)) (number n) ((fixed_number n).cut bs (at + 1) (omega arith) (omega arith)))
          (within (length bs) at);
    }

pub fixed_integer : (n : ℕ) → Fixed (integer n) n (integer_at n)
fixed_integer n = fixed_mapped (from_complement n) (fixed_number n)

pub fixed_times : {A : Type 0} {r : Reader A} {w : ℕ} {f : List ℕ → ℕ → A} → Fixed r w f → (n : ℕ) → Fixed (times n r) (n * w) (λ bs at. items (f bs) w at n)
unfolding times items
fixed_times {w} i zero =
    record {
      whole = λ bs at h. let end : at ≡ at + 0 * w = omega arith in ap (λ (e : ℕ). some ([], drop e bs)) end;
      cut = λ bs at h k. absurd (omega arith);
    }
fixed_times {r} {w} {f} i (suc n) =
    let more = fixed_mapped (λ x. x.0 ∷ x.1) (fixed_then i (fixed_times i n)) in
    record {
      whole = λ bs at h.
          let end : at + (w + n * w) ≡ at + suc n * w = omega arith in
          more.whole bs at (omega arith) ∙ ap (λ (e : ℕ). some (items (f bs) w at (suc n), drop e bs)) end;
      cut = λ bs at h k. more.cut bs at h (omega arith);
    }

pub fixed_floats : (k : ℕ) → Fixed (read_floats k) (k * 8) (floats_at k)
fixed_floats k = fixed_times (fixed_number 8) k

pub fixed_entries : Fixed read_entries 9 entries_at
fixed_entries = fixed_times (fixed_integer 1) 9

-- ---- the operands of each command

pub fixed_site : Fixed read_site 28 site_at
fixed_site = fixed_mapped _ (fixed_then (fixed_integer 4) (fixed_floats 3))

pub fixed_operation : Fixed read_operation 33 operation_at
fixed_operation = fixed_mapped _ (fixed_then fixed_entries (fixed_floats 3))

pub fixed_candidate : Fixed read_candidate 67 candidate_at
fixed_candidate =
    fixed_mapped _ (fixed_then (fixed_then (fixed_number 2) (fixed_number 1)) (fixed_times (fixed_number 1) text_bytes))

-- a command that has no operands
pub fixed_nothing : Fixed {A = Unit {0}} (λ (bs : List ℕ). some (tt, bs)) 0 (λ bs at. tt)
fixed_nothing =
    record {
      whole = λ bs at h. let end : at ≡ at + 0 = omega arith in ap {B = Option (Unit {0} × List ℕ)} (λ (e : ℕ). some (tt, drop e bs)) end;
      cut = λ bs at h k. absurd (omega arith);
    }
