-- Operands at a place of the bytes are those at the front of their own bytes: no other byte counts.
use Rattle.std.specs.Prelude.{ℕ, zero, suc, ◌+◌, ◌*◌, ◌≤◌, ◌<◌, ◌≡◌, refl, List, ◌∷◌, get_or, take, drop}
use Rattle.std.proofs.Common.{sym, ap, ◌∙◌, arith}
use Rattle.std.proofs.lemmas.List.{get_or-take, get_or-drop}
use Rattle.definitions.specs.Job.{float, position_of, rows_of}
use Rattle.definitions.specs.Matrix.{mat}
use Rattle.definitions.specs.Lent.{cells_of}
use Rattle.definitions.specs.Limits.{text_bytes}
use Rattle.job_laws.specs.Reader.{place, from_complement}
use Rattle.job.specs.Places.{word_at, integer_at, items, floats_at, text_at, cells_from, matrix_from}

-- o bytes behind the front of the w bytes that stand at a place, and as many behind that place
module _ (w : ℕ) (bs : List ℕ) (at : ℕ) where
  byte_alone : (o p : ℕ) → p ≡ at + o → o < w → get_or (take w (drop at bs)) o 0 ≡ get_or bs p 0
  byte_alone o p e h = get_or-take w (drop at bs) o 0 h ∙ get_or-drop at bs o 0 ∙ ap (λ q. get_or bs q 0) (sym e)

  word_alone : (n o p : ℕ) → p ≡ at + o → o + n ≤ w → word_at n (take w (drop at bs)) o ≡ word_at n bs p
  unfolding word_at
  word_alone zero o p e h = refl
  word_alone (suc n) o p e h =
      let byte = byte_alone o p e (omega arith) in
      let rest = word_alone n (o + 1) (p + 1) (omega arith) (omega arith) in
      λ i. place (byte i) (rest i)

  -- n operands of v bytes
  items_alone :
      {A : Type 0} (f : List ℕ → ℕ → A) (v : ℕ) →
      ((o p : ℕ) → p ≡ at + o → o + v ≤ w → f (take w (drop at bs)) o ≡ f bs p) →
      (n o p : ℕ) → p ≡ at + o → o + n * v ≤ w → items (f (take w (drop at bs))) v o n ≡ items (f bs) v p n
  unfolding items
  items_alone f v same zero o p e h = refl
  items_alone f v same (suc n) o p e h =
      let first = same o p e (omega arith) in
      let rest = items_alone f v same n (o + v) (p + v) (omega arith) (omega arith) in
      λ i. first i ∷ rest i

-- ---- each operand

module _ (bs : List ℕ) (at : ℕ) where
  here : at ≡ at + 0
  here = omega arith

  -- n numbers of v bytes
  numbers_alone : (v n : ℕ) → items (word_at v (take (n * v) (drop at bs))) v 0 n ≡ items (word_at v bs) v at n
  numbers_alone v n = items_alone (n * v) bs at (word_at v) v (word_alone (n * v) bs at v) n 0 at here (omega arith)

  pub number_alone : (n : ℕ) → word_at n (take n (drop at bs)) 0 ≡ word_at n bs at
  number_alone n = word_alone n bs at n 0 at here (omega arith)

  pub integer_alone : (n : ℕ) → integer_at n (take n (drop at bs)) 0 ≡ integer_at n bs at
  integer_alone n = ap (from_complement n) (number_alone n)

  pub float_alone : float (word_at 8 (take 8 (drop at bs)) 0) ≡ float (word_at 8 bs at)
  float_alone = ap float (number_alone 8)

  pub cells_alone : cells_from (take 24 (drop at bs)) 0 ≡ cells_from bs at
  cells_alone = ap (λ l. cells_of (position_of l)) (numbers_alone 8 3)

  pub lattice_alone :
      mat (λ i j. float (get_or (floats_at 9 (take 72 (drop at bs)) 0) (3 * j + i) 0)) ≡
      mat (λ i j. float (get_or (floats_at 9 bs at) (3 * j + i) 0))
  lattice_alone = ap (λ l. mat (λ i j. float (get_or l (3 * j + i) 0))) (numbers_alone 8 9)

  pub matrix_alone : matrix_from (take 9 (drop at bs)) 0 ≡ matrix_from bs at
  matrix_alone =
      ap rows_of
      (items_alone 9 bs at (integer_at 1) 1 (λ o p e h. ap (from_complement 1) (word_alone 9 bs at 1 o p e h))
      9 0 at here (omega arith))

  pub text_alone : text_at (take 64 (drop at bs)) 0 ≡ text_at bs at
  text_alone = numbers_alone 1 text_bytes
