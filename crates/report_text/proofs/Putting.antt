-- Laws of a text put at a place: texts put one behind the other are the appended text, and one put at the front is
-- as much of it as there is room for.
use Prim.Native.Nat.{ℕ, zero, suc, ◌+◌, ◌≤◌, ◌<◌}
use mathlib.Core.Path.{◌≡◌, refl, sym, ap, subst, ◌∙◌}
use mathlib.Core.List.{List, [], ◌∷◌, ◌++◌}
use native.Mathlib.Nat.{le_of_suc-le-suc, not-suc-le-zero}
use native.Mathlib.Numerals.{add-one}
use lib.ListN.{length, get_or, set, take, drop}
use lib.Seq.{take-suc, take_all}
use Rattle.definitions.specs.WholeCalls.{Written}
use Rattle.report_text.specs.Putting.{put, place, Puts}

put_none : (d : List ℕ) (at : ℕ) → d ≡ put d at []
unfolding put
put_none [] at = refl
put_none (x ∷ d) zero = refl
put_none (x ∷ d) (suc at) = ap (λ l. x ∷ l) (put_none d at)

place_none : (d : List ℕ) (at : ℕ) → at ≡ place d at []
unfolding place
place_none [] at = refl
place_none (x ∷ d) zero = refl
place_none (x ∷ d) (suc at) = ap suc (place_none d at)

put_byte : (d : List ℕ) (at b : ℕ) → set d at b ≡ put d at (b ∷ [])
unfolding put
put_byte [] at b = refl
put_byte (x ∷ d) zero b = ap (λ l. b ∷ l) (put_none d zero)
put_byte (x ∷ d) (suc at) b = ap (λ l. x ∷ l) (put_byte d at b)

place_byte : (d : List ℕ) (at b : ℕ) → at < length d → suc at ≡ place d at (b ∷ [])
unfolding place
place_byte [] at b h = absurd (not-suc-le-zero h)
place_byte (x ∷ d) zero b h = ap suc (place_none d zero)
place_byte (x ∷ d) (suc at) b h = ap suc (place_byte d at b (le_of_suc-le-suc h))

put_full : (d : List ℕ) (at : ℕ) (text : List ℕ) → length d ≤ at → d ≡ put d at text
unfolding put
put_full [] at text h = refl
put_full (x ∷ d) zero text h = absurd (not-suc-le-zero h)
put_full (x ∷ d) (suc at) text h = ap (λ l. x ∷ l) (put_full d at text (le_of_suc-le-suc h))

place_full : (d : List ℕ) (at : ℕ) (text : List ℕ) → length d ≤ at → at ≡ place d at text
unfolding place
place_full [] at text h = refl
place_full (x ∷ d) zero text h = absurd (not-suc-le-zero h)
place_full (x ∷ d) (suc at) text h = ap suc (place_full d at text (le_of_suc-le-suc h))

put-append : (d : List ℕ) (at : ℕ) (t u : List ℕ) → put (put d at t) (place d at t) u ≡ put d at (t ++ u)
unfolding put place
put-append [] at t u = refl
put-append (x ∷ d) zero [] u = refl
put-append (x ∷ d) zero (b ∷ t) u = ap (λ l. b ∷ l) (put-append d zero t u)
put-append (x ∷ d) (suc at) t u = ap (λ l. x ∷ l) (put-append d at t u)

place-append : (d : List ℕ) (at : ℕ) (t u : List ℕ) → place (put d at t) (place d at t) u ≡ place d at (t ++ u)
unfolding put place
place-append [] at t u = refl
place-append (x ∷ d) zero [] u = refl
place-append (x ∷ d) zero (b ∷ t) u = ap suc (place-append d zero t u)
place-append (x ∷ d) (suc at) t u = ap suc (place-append d at t u)

put_front : (d text : List ℕ) → put d zero text ≡ take (length d) text ++ drop (length text) d
unfolding put
put_front [] [] = refl
put_front [] (b ∷ text) = refl
put_front (x ∷ d) [] = refl
put_front (x ∷ d) (b ∷ text) = ap (λ l. b ∷ l) (put_front d text)

place_front : (d text : List ℕ) → place d zero text ≡ length (take (length d) text)
unfolding place
place_front [] text = refl
place_front (x ∷ d) [] = refl
place_front (x ∷ d) (b ∷ text) = ap suc (place_front d text)

pub puts_none : (d : List ℕ) (at : ℕ) → Puts [] at d d at
puts_none d at = record { bytes = put_none d at; next = place_none d at }

pub puts_byte : (d : List ℕ) (at b : ℕ) → at < length d → Puts (b ∷ []) at d (set d at b) (at + 1)
puts_byte d at b h = record { bytes = put_byte d at b; next = add-one at ∙ place_byte d at b h }

pub puts_full : (d : List ℕ) (at : ℕ) (text : List ℕ) → length d ≤ at → Puts text at d d at
puts_full d at text h = record { bytes = put_full d at text h; next = place_full d at text h }

pub puts_more :
    {t u : List ℕ} {at m n : ℕ} {d l k : List ℕ} → Puts t at d l m → Puts u m l k n → Puts (t ++ u) at d k n
puts_more {t} {u} {at} {m} {n} {d} {l} {k} p q =
    record {
      bytes = q.bytes ∙ rw (p.bytes, p.next) (put-append d at t u);
      next = q.next ∙ rw (p.bytes, p.next) (place-append d at t u);
    }

-- at the front, it is as much of the text as there is room for
pub puts_written : {t d l : List ℕ} {n : ℕ} → Puts t 0 d l n → Written t d l n
puts_written {t} {d} {l} {n} p = record { bytes = p.bytes ∙ put_front d t; count = p.next ∙ place_front d t }

-- ---- a text byte by byte

take_next : (text : List ℕ) (i : ℕ) → i < length text → take i text ++ (get_or text i 0 ∷ []) ≡ take (i + 1) text
take_next text i h = rw (add-one i) (sym (take-suc text i 0 h))

pub puts_next :
    (text : List ℕ) (i : ℕ) {at m n : ℕ} {d l k : List ℕ} → i < length text → Puts (take i text) at d l m →
    Puts (get_or text i 0 ∷ []) m l k n → Puts (take (i + 1) text) at d k n
puts_next text i {at} {m} {n} {d} {l} {k} h p q = subst (λ t. Puts t at d k n) (take_next text i h) (puts_more p q)

pub puts_all :
    (text : List ℕ) (i : ℕ) {at n : ℕ} {d l : List ℕ} → length text ≤ i → Puts (take i text) at d l n →
    Puts text at d l n
puts_all text i {at} {n} {d} {l} h p = subst (λ t. Puts t at d l n) (take_all i text h) p
