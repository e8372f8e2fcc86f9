-- Stores into a lent list, front to back: after i of them it is the answer's first i cells and then what was there.
-- `put_step` is a turn of such a loop, `put_end` its end; `padded_by` is what the list is once the rest is zeroed.
use Rattle.std.specs.Prelude.{ℕ, zero, suc, ◌+◌, ◌-◌, ◌≤◌, ◌<◌, ◌≡◌, refl, List, [], ◌∷◌, ◌++◌, length, get_or, set, take, drop, replicate}
use Rattle.std.proofs.Common.{ap, ◌∙◌, arith, not-suc-le-zero, le_of_suc-le-suc, add-one, length-append, length-drop, take_at}
use Rattle.std.proofs.lemmas.List.{length-replicate}
use Rattle.std.proofs.Math.Seq.{take-length}
use Rattle.definitions.specs.Refusal.{padded}

module _ {A : Type 0} (z : A) where
  put-suc : (a d : List A) (i : ℕ) → i < length a → i < length d → set (take i a ++ drop i d) i (get_or a i z) ≡ take (suc i) a ++ drop (suc i) d
  put-suc [] d i h k = absurd (not-suc-le-zero h)
  put-suc (x ∷ a) [] i h k = absurd (not-suc-le-zero k)
  put-suc (x ∷ a) (y ∷ d) zero h k = refl
  put-suc (x ∷ a) (y ∷ d) (suc i) h k = ap (λ l. x ∷ l) (put-suc a d i (le_of_suc-le-suc h) (le_of_suc-le-suc k))

  -- the answer a into a list l that was d: the next cell
  pub put_step : (a d l : List A) (i : ℕ) (x : A) → l ≡ take i a ++ drop i d → i < length a → i < length d → x ≡ get_or a i z → set l i x ≡ take (i + 1) a ++ drop (i + 1) d
  put_step a d l i x e h k f = rw (e, f, add-one i) (put-suc a d i h k)

  pub put_end : (a d l : List A) (i n : ℕ) → l ≡ take i a ++ drop i d → length a ≡ n → i ≡ n → l ≡ a ++ drop n d
  put_end a d l i n e h k = e ∙ rw (k, ← h, take-length a)

  pub length-padded : (front : List A) (room : ℕ) → length front ≤ room → length (padded z front room) ≡ room
  length-padded front room h = length-append front _ ∙ omega (arith, length-replicate (room - length front) z)

  -- the first n cells of d, and zero behind them
  abbrev pub cut : ℕ → List A → List A
  cut n d = padded z (take n d) (length d)

  pub zeros : (m i : ℕ) → get_or (replicate m z) i z ≡ z
  zeros zero i = refl
  zeros (suc m) zero = refl
  zeros (suc m) (suc i) = zeros m i

  -- an answer written to the front and the rest cleared
  pub padded_by : (a d l m : List A) (n : ℕ) → length a ≡ n → n ≤ length d → m ≡ a ++ drop n d → l ≡ cut n m → l ≡ padded z a (length d)
  padded_by a d l m n h k e f =
      let long : length (a ++ drop n d) ≡ length d = length-append a (drop n d) ∙ omega (arith, length-drop n d) in
      f ∙ rw (e, long, take_at a (drop n d) n h)
