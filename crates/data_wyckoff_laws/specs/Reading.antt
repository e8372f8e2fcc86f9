-- A string is in the grammar as one tree at most, and the reader finds it.
use Rattle.std.specs.Prelude.{ℕ, ◌-◌, ◌≡◌, refl, not, List, [], ◌∷◌, ◌++◌, T, length, replicate}
use Rattle.std.proofs.Common.{sym, ap, ◌∙◌, subst, T_not}
use Rattle.std.proofs.Math.Option.{Option, none, some, none-ne-some, some-injective}
use Rattle.definitions.specs.Lists.{those}
use Rattle.definitions.specs.Coordinates.{Axis, Item, Signed, Triplet, spaceless, Reads, in_range, Readable}
use Rattle.data_wyckoff_laws.specs.Reader.{parse, parse-print}
use Rattle.data_wyckoff_laws.specs.Sound.{parse_sound}

-- the reader's answer on a string that is in the grammar
pub reads_parse : (text : List ℕ) (t : Triplet) → Reads text t → parse (spaceless text) ≡ some t
reads_parse text t r = ap parse r.1 ∙ parse-print t r.0

pub read_unique : (text : List ℕ) (t u : Triplet) → Reads text t → Reads text u → t ≡ u
read_unique text t u r s = some-injective t u (sym (reads_parse text t r) ∙ reads_parse text u s)

pub parse_reads : (text : List ℕ) (t : Triplet) → parse (spaceless text) ≡ some t → Reads text t
parse_reads text t e = parse_sound (spaceless text) t e

pub parse_none : (text : List ℕ) → parse (spaceless text) ≡ none → (t : Triplet) → Reads text t → ⊥
parse_none text e t r = none-ne-some t (sym e ∙ reads_parse text t r)

pub reads? : (text : List ℕ) → Dec ((t : Triplet) × Reads text t)
reads? text = by (parse (spaceless text)) refl
  where
    by : (o : Option Triplet) → parse (spaceless text) ≡ o → Dec ((t : Triplet) × Reads text t)
    by none e = no (λ r. parse_none text e r.0 r.1)
    by (some t) e = yes (t, parse_reads text t e)

pub readable : (text : List ℕ) (t : Triplet) → parse (spaceless text) ≡ some t → T (in_range t) → Readable text
readable text t e h = (t, parse_reads text t e, h)

-- no tree in range is read: none is read at all, or that one leaves the range
pub unreadable : (text : List ℕ) → ((t : Triplet) → parse (spaceless text) ≡ some t → T (in_range t) → ⊥) → Readable text → ⊥
unreadable text h r = h r.0 (reads_parse text r.0 r.1) r.2

pub unreadable_none : (text : List ℕ) → parse (spaceless text) ≡ none → Readable text → ⊥
unreadable_none text e r = parse_none text e r.0 r.1

pub unreadable_range : (text : List ℕ) (t : Triplet) → parse (spaceless text) ≡ some t → T (not (in_range t)) → Readable text → ⊥
unreadable_range text t e h r =
    T_not (in_range t) h
    (subst (λ (u : Triplet). T (in_range u)) (read_unique text r.0 t r.1 (parse_reads text t e)) r.2)

-- ---- examples

-- a string with spaces behind it to 64 bytes
abbrev pub padded : List ℕ → List ℕ
padded l = l ++ replicate (64 - length l) 32

-- `x,y`, `+x,y,z`, and `-x,2x,1/2` with its tree
abbrev two_terms : List ℕ
two_terms = padded (120 ∷ 44 ∷ 121 ∷ [])

abbrev plus_first : List ℕ
plus_first = 43 ∷ 120 ∷ 44 ∷ 121 ∷ 44 ∷ 122 ∷ []

abbrev special : List ℕ
special = padded (45 ∷ 120 ∷ 44 ∷ 50 ∷ 120 ∷ 44 ∷ 49 ∷ 47 ∷ 50 ∷ [])

abbrev special_tree : Triplet
special_tree = record {
  first = record { first = Signed.minus (Item.axis Axis.x); rest = [] };
  second = record { first = Signed.plus (Item.times 2 Axis.x); rest = [] };
  third = record { first = Signed.plus (Item.fraction 1 2); rest = [] };
}

two-terms_refused : (t : Triplet) → Reads two_terms t → ⊥
unfolding parse those
two-terms_refused = parse_none two_terms refl

plus_first_refused : (t : Triplet) → Reads plus_first t → ⊥
unfolding parse those
plus_first_refused = parse_none plus_first refl

special_reads : Reads special special_tree
unfolding parse those
special_reads = parse_reads special special_tree refl

special-readable : Readable special
unfolding parse those in_range
special-readable = readable special special_tree refl tt
