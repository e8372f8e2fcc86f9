-- How long a report can be, by 20 digits a number and a listing of at most 1,024 sites; and that what is written there
-- is the whole text.
use Prim.Native.Nat.{ℕ, zero, suc, ◌+◌, ◌*◌, ◌/◌, ◌%◌, ◌≤◌}
use mathlib.Core.Path.{◌≡◌, ap, ◌∙◌}
use mathlib.Core.Bool.{Bool, true, false}
use mathlib.Core.List.{List, [], ◌∷◌, ◌++◌}
use native.Mathlib.Omega.{arith}
use lib.ListN.{length, get_or, take, drop, length-append}
use lib.Seq.{take_all, take_at}
use lib.Dec.{ltb}
use Rattle.definitions.specs.Limits.{most_listed}
use Rattle.definitions.specs.Lists.{each, up_to}
use Rattle.definitions.specs.Refusal.{accepted, refused}
use Rattle.definitions.specs.Standardize.{Answer}
use Rattle.definitions.specs.Report.{decimal, decimal_in, space, newline}
use Rattle.definitions.specs.Report.{refused_text, sites_text, orbits_text, site_line, report}
use Rattle.definitions.specs.WholeCalls.{Written}
use Rattle.report_text.specs.Text.{header_text, header_bytes, line_bytes, report_bytes}
use Rattle.laws.specs.Lists.{length-up_from}

record Room (text : List ℕ) (m : ℕ) : Type 0 where
  most : length text ≤ m

then : {a b : List ℕ} {m n : ℕ} → Room a m → Room b n → Room (a ++ b) (m + n)
then {a} {b} h k = record { most = omega (arith, length-append a b, h.most, k.most) }

digits_room : (d n : ℕ) → Room (decimal_in d n) d
unfolding decimal_in
digits_room zero n = record { most = omega arith }
digits_room (suc d) n = by (ltb n 10) (digits_room d (n / 10))
  where
    by :
        (b : Bool) → Room (decimal_in d (n / 10)) d →
        Room (elim b as (λ _. List ℕ) [ true ↦ (48 + n) ∷ [] | false ↦ decimal_in d (n / 10) ++ ((48 + n % 10) ∷ []) ])
        (suc d)
    by true h = record { most = omega arith }
    by false h =
        record { most = omega (arith, length-append (decimal_in d (n / 10)) ((48 + n % 10) ∷ []), h.most) }

-- a number with a space in front
field_room : (n : ℕ) → Room (space ∷ decimal n) 21
field_room n = record { most = omega (arith, (digits_room 20 n).most) }

letter_room : (b : ℕ) → Room (space ∷ b ∷ newline ∷ []) 3
letter_room b = record { most = omega arith }

newline_room : Room (newline ∷ []) 1
newline_room = record { most = omega arith }

line_room : (a : Answer) (j : ℕ) → length (site_line a j) ≤ line_bytes
line_room a j =
    let site = then (digits_room 20 j) (field_room (get_or a.mapping j 0)) in
    let numbers = then (then site (field_room (get_or a.labels j 0))) (field_room (get_or a.multiplicities j 0)) in
    (then numbers (letter_room (get_or a.letters j 0))).most

each_room : (f : ℕ → List ℕ) (m : ℕ) → ((j : ℕ) → length (f j) ≤ m) → (l : List ℕ) → length (each f l) ≤ length l * m
unfolding each
each_room f m h [] = omega arith
each_room f m h (j ∷ l) = omega (arith, length-append (f j) (each f l), h j, each_room f m h l)

header_room : (sites orbits : ℕ) → length (header_text sites orbits) ≤ header_bytes
header_room sites orbits =
    let a : Room sites_text 6 = record { most = omega arith } in
    let b : Room orbits_text 8 = record { most = omega arith } in
    (then (then (then (then a (digits_room 20 sites)) b) (digits_room 20 orbits)) newline_room).most

pub report_room : (a : Answer) → a.sites ≤ most_listed → length (report (accepted a)) ≤ report_bytes
unfolding report
report_room a h =
    omega (
      arith,
      length-append (header_text a.sites a.orbits) (each (site_line a) (up_to a.sites)),
      header_room a.sites a.orbits,
      each_room (site_line a) line_bytes (line_room a) (up_to a.sites),
      length-up_from 0 a.sites,
    )

pub refusal_room : (k : ℕ) → length (report (refused k)) ≤ 29
unfolding report
refusal_room k =
    let a : Room refused_text 8 = record { most = omega arith } in
    (then (then a (digits_room 20 k)) newline_room).most

-- the count is one of lent bytes, and where there is room for the text they are the text
module _ {text d l : List ℕ} {n : ℕ} (w : Written text d l n) where
  pub written_within : n ≤ length l
  written_within =
      omega (arith, w.count, ap length w.bytes ∙ length-append (take (length d) text) (drop (length text) d))

  pub written_whole : length text ≤ length d → take n l ≡ text
  written_whole h =
      let whole : take (length d) text ≡ text = take_all (length d) text h in
      let long : length text ≡ n = omega (arith, w.count ∙ ap length whole) in
      ap (take n) (w.bytes ∙ ap (λ t. t ++ drop (length text) d) whole) ∙ take_at text (drop (length text) d) n long
