-- The terms one behind the other, as the definition has them.
use Prim.Native.Nat.{ℕ, ◌+◌, ◌≤◌}
use mathlib.Core.Path.{◌≡◌, refl, sym, ap, subst, ◌∙◌}
use mathlib.Core.List.{List, [], ◌∷◌}
use native.Mathlib.Omega.{arith}
use lib.Ieee.{Float}
use lib.IntN.{ℤ}
use lib.ListN.{length}
use borrow.Author.Rules.{rules}
use borrow.Author.Tests.{eq-eqb, ne_eqb}
use Rattle.std.specs.Prelude.{Option, Some, None, option_and_then}
use Rattle.definitions.specs.Matrix.{Matrix}
use Rattle.data_wyckoff.specs.Scan.{term_at}
use Rattle.data_wyckoff.specs.Terms.{entries_of, coordinates_of, with_first, with_second, with_third, coordinates_in, ReadAs, read_as}
use Rattle.data_wyckoff.specs.declared.Row.{Row}
use Rattle.data_wyckoff.proofs.Steps.{Within, term_within}
use Rattle.data_wyckoff.proofs.read_terms.Goals as goal
use Rattle.data_wyckoff.proofs.read_terms.Goals.{Start, In_ok-a, In_ok-b, In_ok-c, Else-c-end}

size : (c : Start) → length c.args.text ≡ 64
size c = search rules

-- the place behind a term fits
within : (text : List ℕ) (i : ℕ) (a : Row) → Some a ≡ term_at text i → a.end ≤ i + length text
within text i a e = subst (Within (i + length text)) (sym e) (term_within text i)

module _ (text : List ℕ) where
  meant : (o : Option (Matrix × List Float)) → o ≡ coordinates_in text → ReadAs text o
  meant o e = subst (ReadAs text) (sym e) (read_as text)

  module _ (a : Row) (ea : Some a ≡ term_at text 0) where
    after_first : with_first text a ≡ coordinates_in text
    unfolding coordinates_in
    after_first = ap (option_and_then (with_first text)) ea

    module _ (b : Row) (eb : Some b ≡ term_at text (a.end + 1)) where
      after_second : with_second text a b ≡ coordinates_in text
      after_second = ap (option_and_then (with_second text a)) eb ∙ after_first

      module _ (c : Row) (ec : Some c ≡ term_at text (b.end + 1)) where
        after_third : with_third text a b c ≡ coordinates_in text
        after_third = ap (option_and_then (with_third text a b)) ec ∙ after_second

        more_left : (c.end ≡ length text → ⊥) → None ≡ coordinates_in text
        more_left h = rw (ne_eqb c.end (length text) h) at after_third

        all_read : c.end ≡ length text → coordinates_of a b c ≡ coordinates_in text
        all_read e = rw (eq-eqb c.end (length text) e) at after_third

module _ (a b c : Row) where
  first_out : None ≡ entries_of a → None ≡ coordinates_of a b c
  first_out e = rw (← e) refl

  module _ (p : List ℤ) (ep : Some p ≡ entries_of a) where
    second_out : None ≡ entries_of b → None ≡ coordinates_of a b c
    second_out e = rw (← ep, ← e) refl

    module _ (q : List ℤ) (eq : Some q ≡ entries_of b) where
      third_out : None ≡ entries_of c → None ≡ coordinates_of a b c
      third_out e = rw (← ep, ← eq, ← e) refl

      all_in : (r : List ℤ) → Some r ≡ entries_of c →
          Some (p ∷ q ∷ r ∷ [], a.constant ∷ b.constant ∷ c.constant ∷ []) ≡ coordinates_of a b c
      all_in r er = rw (← ep, ← eq, ← er) refl

pub returns-in_err-a : goal.returns-in_err-a
unfolding coordinates_in
returns-in_err-a c =
    let text = c.args.text in
    meant text _ (c.from_residual.ensures ∙ ap (option_and_then (with_first text)) c.in_err-a.ensures)

pub overflow_add-a : goal.overflow_add-a
overflow_add-a c =
    let k = within c.args.text 0 c.in_ok-a.a c.in_ok-a.ensures in
    record { fits = omega (arith, k, size (goal.at.overflow_add-a c).Start) }

pub returns-in_err-b : goal.returns-in_err-b
returns-in_err-b c =
    let text = c.args.text in
    let a = c.in_ok-a.a in
    meant text _
    (c.from_residual-in_err-b.ensures
    ∙ ap (option_and_then (with_second text a)) c.in_err-b.ensures
    ∙ after_first text a c.in_ok-a.ensures)

pub overflow_add-b : goal.overflow_add-b
overflow_add-b c =
    let a = c.in_ok-a.a in
    let k = within c.args.text 0 a c.in_ok-a.ensures in
    let l = within c.args.text (a.end + 1) c.in_ok-b.b c.in_ok-b.ensures in
    record { fits = omega (arith, k, l, size (goal.at.overflow_add-b c).Start) }

pub returns-in_err-c : goal.returns-in_err-c
returns-in_err-c c =
    let text = c.args.text in
    let a = c.in_ok-a.a in
    let b = c.in_ok-b.b in
    meant text _
    (c.from_residual-in_err-c.ensures
    ∙ ap (option_and_then (with_third text a b)) c.in_err-c.ensures
    ∙ after_second text a c.in_ok-a.ensures b c.in_ok-b.ensures)

pub returns-then-c-end : goal.returns-then-c-end
returns-then-c-end c =
    let n = size (goal.at.returns-then-c-end c).Start in
    meant c.args.text None
    (more_left c.args.text c.in_ok-a.a c.in_ok-a.ensures c.in_ok-b.b c.in_ok-b.ensures c.in_ok-c.c c.in_ok-c.ensures
    (λ e. c.if-c-end.true (e ∙ n)))

read : (c : Else-c-end) → coordinates_of c.in_ok-a.a c.in_ok-b.b c.in_ok-c.c ≡ coordinates_in c.args.text
read c =
    all_read c.args.text c.in_ok-a.a c.in_ok-a.ensures c.in_ok-b.b c.in_ok-b.ensures c.in_ok-c.c c.in_ok-c.ensures
    (c.if-c-end.false ∙ sym (size (goal.at.Else-c-end c).Start))

pub returns-in_err-entries : goal.returns-in_err-entries
returns-in_err-entries c =
    let a = c.in_ok-a.a in
    let b = c.in_ok-b.b in
    let d = c.in_ok-c.c in
    meant c.args.text _
    (c.from_residual-in_err-entries.ensures
    ∙ first_out a b d c.in_err-entries.ensures
    ∙ read (goal.at.returns-in_err-entries c).Else-c-end)

pub returns-in_err-entries-2 : goal.returns-in_err-entries-2
returns-in_err-entries-2 c =
    let a = c.in_ok-a.a in
    let b = c.in_ok-b.b in
    let d = c.in_ok-c.c in
    meant c.args.text _
    (c.from_residual-in_err-entries-2.ensures
    ∙ second_out a b d c.in_ok-entries.field-0 c.in_ok-entries.ensures c.in_err-entries-2.ensures
    ∙ read (goal.at.returns-in_err-entries-2 c).Else-c-end)

pub returns-in_err-entries-3 : goal.returns-in_err-entries-3
returns-in_err-entries-3 c =
    let a = c.in_ok-a.a in
    let b = c.in_ok-b.b in
    let d = c.in_ok-c.c in
    meant c.args.text _
    (c.from_residual-in_err-entries-3.ensures
    ∙ third_out a b d c.in_ok-entries.field-0 c.in_ok-entries.ensures c.in_ok-entries-2.field-0 c.in_ok-entries-2.ensures c.in_err-entries-3.ensures
    ∙ read (goal.at.returns-in_err-entries-3 c).Else-c-end)

pub returns : goal.returns
returns c =
    let a = c.in_ok-a.a in
    let b = c.in_ok-b.b in
    let d = c.in_ok-c.c in
    let p = c.in_ok-entries in
    let q = c.in_ok-entries-2 in
    let r = c.in_ok-entries-3 in
    meant c.args.text _
    (all_in a b d p.field-0 p.ensures q.field-0 q.ensures r.field-0 r.ensures ∙ read (goal.at.returns c).Else-c-end)
