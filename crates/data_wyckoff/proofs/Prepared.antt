-- How the promise of `prepare` is kept: by what was read, and what the diagonalisation of it says.
use Prim.Native.Nat.{ℕ}
use mathlib.Core.Path.{◌≡◌, refl, sym, ap, subst}
use mathlib.Core.Bool.{Bool, true, false, not}
use mathlib.Core.List.{List, [], ◌∷◌}
use mathlib.Core.Logic.{⊎_elim}
use lib.Dec.{T}
use lib.Ieee.{Float}
use Rattle.std.specs.Prelude.{Option, None, Some, Err, Ok}
use Rattle.std.specs.Option.{ok_or}
use Rattle.definitions.specs.declared.Refusal.{Refusal}
use Rattle.definitions.specs.declared.Refusal.TheVariants.{Coordinates, Diagonalisation}
use Rattle.definitions.specs.Calls.{snf_conditions, IsSnf}
use Rattle.definitions.specs.Coordinates.{Triplet, Reads, Readable, rows, in_range}
use Rattle.definitions.specs.Lent.{position_from, cells_of}
use Rattle.definitions.specs.Limits as Limits
use Rattle.definitions.specs.Matrix.{Matrix}
use Rattle.definitions.specs.Refusal.{Checked, Returns, Applies, ◌when◌, diagonalisation, matrix_entry, number}
use Rattle.definitions.specs.Refusal.{accepted, refused}
use Rattle.definitions.specs.SiteCalls.{prepare_conditions, space_from, PreparePromise}
use Rattle.definitions.specs.Snf.{State, Leaves}
use Rattle.definitions.specs.Standardize.{TextLeaves}
use Rattle.definitions.specs.Wyckoff.{IsSpace}
use Rattle.laws.specs.Order.{numbered, FailAll, past, applies_later, applies_last}
use Rattle.laws.specs.Verdicts.{HoldsAt, Passed, found_at_lem, found_none, refuse, accept, verdict_of, number_one}
use Rattle.laws.specs.Verdicts.{accepted_with, refused_with_lem}
use Rattle.data_wyckoff_laws.specs.Reading.{read_unique}
use Rattle.data_wyckoff.specs.Terms.{ReadAs}

clash : (b : Bool) → T b → T (not b) → ⊥
clash true h n = n
clash false h n = h

module _ (text : List ℕ) (t : Triplet) (r : Reads text t) where
  -- the text leaves the range as its rows do
  leaves-read : TextLeaves text → Leaves (rows t)
  leaves-read l = subst (λ (w : Triplet). Leaves (rows w)) (read_unique text l.0 t l.1 r) l.2

  module _ (ok : T (in_range t)) where
    checked_accepted : Checked (snf_conditions (rows t)) (Ok tt) → Checked (prepare_conditions text) (Ok tt)
    unfolding numbered FailAll verdict_of found_none Passed
    checked_accepted c =
        accept (prepare_conditions text)
        (λ n. n (t, r, ok), (λ l. (past (snf_conditions (rows t)) tt c).1.0 (leaves-read l), tt))
        refl

    -- what the rows are refused with is 8
    refused_leaves : (k : Refusal) → Checked (snf_conditions (rows t)) (Err k) → (Diagonalisation ≡ k) × Leaves (rows t)
    unfolding Checked Returns in_range Applies
    refused_leaves k c =
        ⊎_elim (λ n. absurd n) (λ h. (number_one Diagonalisation k h.0, h.1))
        (applies_last [] (diagonalisation when Leaves (rows t)) (number k)
        (applies_later (matrix_entry when T (not (Limits.in_range (rows t))))
        ((diagonalisation when Leaves (rows t)) ∷ []) (number k) (clash (in_range t) ok) c.0))

    checked_refused :
        (k : Refusal) → Checked (snf_conditions (rows t)) (Err k) → Checked (prepare_conditions text) (Err k)
    unfolding verdict_of found_at_lem Passed HoldsAt
    checked_refused k c =
        let w = refused_leaves k c in
        subst (λ n. Checked (prepare_conditions text) (Err n)) w.0
        (refuse (prepare_conditions text) 1 (λ n. n (t, r, ok), tt) (t, r, w.1) (Err Diagonalisation) refl)

module _ (text : List ℕ) (m : Matrix) (q : List Float) (h : ReadAs text (Some (m, q))) where
  -- the origin is three floats
  pub shift_read : cells_of (position_from q) ≡ q
  shift_read = subst (λ v. cells_of (position_from v) ≡ v) (sym h.4) refl

  -- what is read, and its diagonalisation is accepted ..
  pub ready :
      (s : State) → Returns (snf_conditions m) (IsSnf m) (accepted s) →
      PreparePromise text (accepted (space_from m q s))
  unfolding Checked Returns
  ready s d =
      let t : Triplet = h.0 in
      let w : Returns (snf_conditions (rows t)) (IsSnf (rows t)) (accepted s) =
      subst (λ n. Returns (snf_conditions n) (IsSnf n) (accepted s)) h.3 d in
      accepted_with (prepare_conditions text) (IsSpace text) (space_from m q s)
      (checked_accepted text t h.1 h.2 (w.0, tt))
      (record {
        triplet = t;
        reads = h.1;
        matrix = h.3;
        shift = ap position_from h.4;
        run = w.1.0;
        snf = sym w.1.1;
      })

  -- .. or refused, which is passed on
  pub not_ready :
      (k : Refusal) → Returns (snf_conditions m) (IsSnf m) (refused (number k)) →
      PreparePromise text (refused (number k))
  unfolding Checked Returns
  not_ready k d =
      refused_with_lem (prepare_conditions text) (IsSpace text) k
      (checked_refused text h.0 h.1 h.2 k (subst (λ n. Checked (snf_conditions n) (Err k)) h.3 d))

-- what is not read
unread : (text : List ℕ) → (Readable text → ⊥) → PreparePromise text (refused (number Coordinates))
unfolding verdict_of found_at_lem Passed HoldsAt
unread text h =
    refused_with_lem (prepare_conditions text) (IsSpace text) Coordinates
    (refuse (prepare_conditions text) 0 tt h (Err Coordinates) refl)

pub not_read :
    (text : List ℕ) (o : Option (Matrix × List Float)) (k : Refusal) → ReadAs text o → o ≡ None →
    Err k ≡ ok_or o Coordinates → PreparePromise text (refused (number k))
not_read text o k h n e =
    let f : k ≡ Coordinates = cc in
    subst (λ j. PreparePromise text (refused (number j))) (sym f) (unread text (subst (ReadAs text) n h))
