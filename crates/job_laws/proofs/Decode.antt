-- A job's bytes are read back: at most one job has them.
use Rattle.std.specs.Prelude.{ℕ, ◌≡◌, refl, ◌&&◌, List, [], ◌∷◌, ◌++◌, T}
use Rattle.std.proofs.Common.{sym, ap, ◌∙◌, append-nil}
use Rattle.std.proofs.Math.Option.{Option, none, some, some-injective, none-ne-some}
use Rattle.std.proofs.Math.Pow.{are_bytes}
use Rattle.definitions.specs.Lists.{each}
use Rattle.definitions.specs.Job.{Parts, lattice_command, transformation, centring, holds_site, holds_operation, holds_candidate, holds_parts, unsigneds, signeds, bytes, signed_bytes, floats, entries, encode, IsJob, EncodeInjective}
use Rattle.definitions.specs.Limits.{text_bytes}
use Rattle.job_laws.specs.Reader.{Inverse, times_inverse, behind_inverse, many-after, closed-inverse, mapped-inverse, then_inverse}
use Rattle.job_laws.proofs.Reader.{number_inverse, integer-inverse}
use Rattle.job_laws.specs.Decode.{read_floats, read_entries, read_site, read_operation, read_candidate, read_lattice, read_transformation, read_centring, to_parts, from_parts, read_parts, ending, decode}

-- ---- the operands of each command

pub floats-inverse : (k : ℕ) → Inverse [] (unsigneds k 8) floats (read_floats k)
floats-inverse k = times_inverse (number_inverse 8) k

pub entries-inverse : Inverse [] (signeds 9 1) entries read_entries
entries-inverse = times_inverse (integer-inverse 0) 9

pub site-inverse : Inverse [] holds_site (λ s. signed_bytes 4 s.element ++ floats s.position) read_site
site-inverse = mapped-inverse (then_inverse (integer-inverse 3) (floats-inverse 3) (λ b k c. tt)) _ (λ s. (s.element, s.position)) (λ x. refl) (λ s. refl)

pub operation-inverse : Inverse [] holds_operation (λ o. entries o.rotation ++ floats o.translation) read_operation
operation-inverse = mapped-inverse (then_inverse entries-inverse (floats-inverse 3) (λ b k c. tt)) _ (λ o. (o.rotation, o.translation)) (λ x. refl) (λ o. refl)

pub candidate-inverse : Inverse [] holds_candidate (λ w. bytes 2 w.multiplicity ++ bytes 1 w.letter ++ each (bytes 1) w.text) read_candidate
candidate-inverse =
    let numbers = then_inverse (number_inverse 2) (number_inverse 1) (λ b k c. tt) in
    mapped-inverse (then_inverse numbers (times_inverse (number_inverse 1) text_bytes) (λ b k c. tt)) _ (λ w. ((w.multiplicity, w.letter), w.text)) (λ x. refl) (λ w. refl)

-- ---- the commands in their order

pub lattice-inverse : Inverse [] (unsigneds 9 8) lattice_command read_lattice
lattice-inverse = behind_inverse (floats-inverse 9) 76

pub transformation-inverse : Inverse [] (λ x. signeds 9 1 x.0 && unsigneds 3 8 x.1) (λ x. transformation x.0 x.1) read_transformation
transformation-inverse = behind_inverse (then_inverse entries-inverse (floats-inverse 3) (λ b k c. tt)) 84

pub centring-inverse : Inverse [] (signeds 9 1) centring read_centring
centring-inverse = behind_inverse entries-inverse 67

pub parts_inverse : Inverse [] holds_parts encode read_parts
unfolding read_parts holds_parts encode
parts_inverse =
    let once = then_inverse (then_inverse lattice-inverse transformation-inverse (λ b k c. tt)) centring-inverse (λ b k c. tt) in
    let sites = many-after once site-inverse 83 (λ k. tt) in
    let operations = many-after sites operation-inverse 79 (λ k. tt) in
    let images = many-after operations (number_inverse 1) 80 (λ k. tt) in
    let targets = many-after images operation-inverse 71 (λ k. tt) in
    let rotations = many-after targets entries-inverse 82 (λ k. tt) in
    let candidates = many-after rotations candidate-inverse 87 (λ k. tt) in
    let whole = then_inverse candidates (behind_inverse (number_inverse 8) 78) (λ b k c. tt) in
    closed-inverse (mapped-inverse whole to_parts from_parts (λ x. refl) (λ p. refl)) 90 (λ k. tt)

-- ---- the whole job, and nothing behind it

pub decode-encode : (p : Parts) → T (holds_parts p) → decode (encode p) ≡ some p
unfolding decode
decode-encode p t = ap (λ (bs : List ℕ). ending (read_parts bs)) (sym (append-nil (encode p))) ∙ ap ending (parts_inverse.forth p [] t tt)

pub encode_injective : EncodeInjective
encode_injective p q t u e = some-injective p q (sym (decode-encode p t) ∙ ap decode e ∙ decode-encode q u)

pub job_decodes : (bs : List ℕ) (p : Parts) → IsJob bs p → decode bs ≡ some p
job_decodes bs p j = ap decode (sym j.1) ∙ decode-encode p j.0

-- no two jobs have the same bytes
pub job_unique : (bs : List ℕ) (p q : Parts) → IsJob bs p → IsJob bs q → p ≡ q
job_unique bs p q i j = encode_injective p q i.0 j.0 (i.1 ∙ sym j.1)

pub not_a_job : (bs : List ℕ) → decode bs ≡ none → (p : Parts) → IsJob bs p → ⊥
not_a_job bs e p j = none-ne-some p (sym e ∙ job_decodes bs p j)

-- ---- what is read is the job

pub ending_is : (o : Option (Parts × List ℕ)) (p : Parts) → ending o ≡ some p → o ≡ some (p, [])
ending_is none p e = absurd (none-ne-some p e)
ending_is (some x) p e = go x.1 e
  where
    go : (k : List ℕ) → ending (some (x.0, k)) ≡ some p → ◌≡◌ {A = Option (Parts × List ℕ)} (some (x.0, k)) (some (p, []))
    go [] e = ap (λ (q : Parts). some (q, [])) (some-injective x.0 p e)
    go (b ∷ k) e = absurd (none-ne-some p e)

pub decode_sound : (bs : List ℕ) (p : Parts) → decode bs ≡ some p → T (are_bytes bs) → IsJob bs p
unfolding decode
decode_sound bs p e t =
    let (holds, print) = parts_inverse.back bs p [] t (ending_is (read_parts bs) p e) in
    (holds, sym (append-nil (encode p)) ∙ print)
