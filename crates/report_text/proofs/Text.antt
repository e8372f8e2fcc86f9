-- Laws of the report's text: its lines one by one, and that it is the report of every outcome that is told.
use Prim.Native.Nat.{ℕ, zero, suc, ◌+◌}
use mathlib.Core.Path.{◌≡◌, refl, sym, ap, subst, ◌∙◌}
use mathlib.Core.List.{List, [], ◌∷◌, ◌++◌, append-nil, append_assoc}
use native.Mathlib.Numerals.{add-one}
use native.Mathlib.Omega.{arith}
use lib.ListN.{get_or}
use Rattle.definitions.specs.declared.AnswerCounts.{AnswerCounts}
use Rattle.definitions.specs.Lists.{each, up_from, up_to}
use Rattle.definitions.specs.Refusal.{Outcome, accepted, refused}
use Rattle.definitions.specs.Standardize.{Answer}
use Rattle.definitions.specs.Report.{decimal, site_line, report}
use Rattle.definitions.specs.WholeCalls.{Shown, Tells, Written, ReportWritten}
use Rattle.report_text.specs.Putting.{Puts}
use Rattle.report_text.specs.Text.{field_text, letter_text, line_text, lines_text, header_text, refusal_text, shown_text}
use Rattle.report_text.proofs.Putting.{puts_none, puts_more, puts_written}

each-up_from : (f : ℕ → List ℕ) (k n : ℕ) → each f (up_from k (suc n)) ≡ each f (up_from k n) ++ f (k + n)
unfolding each up_from
each-up_from f k zero = let o : k ≡ k + 0 = omega arith in append-nil (f k) ∙ ap f o
each-up_from f k (suc n) =
    let o : suc k + n ≡ k + suc n = omega arith in
    ap (λ l. f k ++ l) (each-up_from f (suc k) n)
    ∙ sym (append_assoc (f k) (each f (up_from (suc k) n)) (f (suc k + n)))
    ∙ ap (λ i. (f k ++ each f (up_from (suc k) n)) ++ f i) o

lines_next : (s : Shown) (n : ℕ) → lines_text s n ++ line_text s n ≡ lines_text s (n + 1)
lines_next s n =
    let o : 0 + n ≡ n = omega arith in
    sym (ap (lines_text s) (add-one n) ∙ each-up_from (line_text s) 0 n ∙ ap (λ i. lines_text s n ++ line_text s i) o)

-- no line yet, and the next one
pub lines_none : (s : Shown) (d : List ℕ) (at : ℕ) → Puts (lines_text s 0) at d d at
unfolding each up_from
lines_none s d at = puts_none d at

pub lines_more :
    (s : Shown) (j : ℕ) {at m n : ℕ} {d l k : List ℕ} → Puts (lines_text s j) at d l m → Puts (line_text s j) m l k n →
    Puts (lines_text s (j + 1)) at d k n
lines_more s j {at} {m} {n} {d} {l} {k} p q = subst (λ t. Puts t at d k n) (lines_next s j) (puts_more p q)

-- a line by its parts
pub puts_line :
    (s : Shown) (j : ℕ) {m l k b p p₁ p₂ p₃ p₄ p₅ : ℕ} {d d₁ d₂ d₃ d₄ d₅ : List ℕ} → m ≡ get_or s.mapping j 0 →
    l ≡ get_or s.labels j 0 → k ≡ get_or s.multiplicities j 0 → b ≡ get_or s.letters j 0 →
    Puts (decimal j) p d d₁ p₁ → Puts (field_text m) p₁ d₁ d₂ p₂ → Puts (field_text l) p₂ d₂ d₃ p₃ →
    Puts (field_text k) p₃ d₃ d₄ p₄ → Puts (letter_text b) p₄ d₄ d₅ p₅ → Puts (line_text s j) p d d₅ p₅
puts_line s j {p = p} {p₅ = p₅} {d = d} {d₅ = d₅} em el ek eb site mapping label multiplicity letter =
    subst (λ t. Puts t p d d₅ p₅)
    (λ i. decimal j ++ field_text (em i) ++ field_text (el i) ++ field_text (ek i) ++ letter_text (eb i))
    (puts_more (puts_more (puts_more (puts_more site mapping) label) multiplicity) letter)

each_same : (f g : ℕ → List ℕ) → ((j : ℕ) → f j ≡ g j) → (l : List ℕ) → each f l ≡ each g l
unfolding each
each_same f g h [] = refl
each_same f g h (j ∷ l) = rw (h j, each_same f g h l)

module _ (r : Outcome AnswerCounts) (s : Shown) where
  line_told : (a : Answer) → Tells r s (accepted a) → (j : ℕ) → site_line a j ≡ line_text s j
  line_told a t j = rw (t.mapping a refl j, t.labels a refl j, t.multiplicities a refl j, t.letters a refl j)

  told_text : List ℕ
  told_text = shown_text r s

  report_told : (o : Outcome Answer) → Tells r s o → report o ≡ told_text
  unfolding report shown_text told_text
  report_told (refused k) t = subst (λ q. report (refused k) ≡ shown_text q s) t.told refl
  report_told (accepted a) t =
      subst (λ q. report (accepted a) ≡ shown_text q s) t.told
      (ap (λ l. header_text a.sites a.orbits ++ l)
      (each_same (site_line a) (line_text s) (line_told a t) (up_to a.sites)))

  -- what is told is one report's text, whatever outcome tells it
  report-written : {d l : List ℕ} {n : ℕ} → Puts told_text 0 d l n → ReportWritten r s d l n
  report-written {d} {l} {n} p o t = subst (λ text. Written text d l n) (sym (report_told o t)) (puts_written p)

  pub report_refused :
      {k n : ℕ} {d l : List ℕ} → r ≡ refused k → Puts (refusal_text k) 0 d l n → ReportWritten r s d l n
  unfolding shown_text told_text
  report_refused {k} {n} {d} {l} e p =
      report-written (subst (λ q. Puts (shown_text q s) 0 d l n) (sym e) p)

  pub report-accepted :
      {sites orbits m n : ℕ} {d l k : List ℕ} → r ≡ accepted (record { sites = sites; orbits = orbits }) →
      Puts (header_text sites orbits) 0 d l m → Puts (lines_text s sites) m l k n → ReportWritten r s d k n
  unfolding shown_text told_text
  report-accepted {n = n} {d} {k = k} e p q =
      report-written (subst (λ q. Puts (shown_text q s) 0 d k n) (sym e) (puts_more p q))
