-- Candidates past 6 have spaces: each text is read, and each matrix has a run.
use Rattle.std.specs.Prelude.{ℕ, suc, ◌≡◌, refl, Bool, false, ◌||◌, List, [], ◌∷◌, length}
use Rattle.std.proofs.Common.{ap, arith, eqb-true, inl, inr}
use Rattle.std.proofs.lemmas.Bool.{not-false}
use Rattle.definitions.specs.Limits.{too_many_candidates}
use Rattle.definitions.specs.Lent.{candidates_from, unlike, bad_permutation_counts}
use Rattle.definitions.specs.SiteCalls.{LetterArguments, candidates_in, bad_letter_counts}
use Rattle.laws.specs.Tests.{neither_left, neither_right}
use Rattle.definitions.specs.Lists.{Some}
use Rattle.definitions.specs.Coordinates.{Triplet, Reads, Readable, rows, origin_of}
use Rattle.definitions.specs.Wyckoff.{Space, texts_of, AreSpaces}
use Rattle.definitions.specs.Standardize.{BadCoordinates}
use Rattle.math_snf_laws.specs.Runs.{every}
use Rattle.data_wyckoff_laws.specs.Reading.{reads?}

read : (text : List ℕ) → ((Readable text → ⊥) → ⊥) → (t : Triplet) × Reads text t
read text h = by (reads? text)
  where
    by : Dec ((t : Triplet) × Reads text t) → (t : Triplet) × Reads text t
    by (yes r) = r
    by (no n) = absurd (h (λ r. n (r.0, r.1)))

pub spaces_found : (ts : List (List ℕ)) → (BadCoordinates ts → ⊥) → (ss : List Space) × AreSpaces ts ss
unfolding Some AreSpaces
spaces_found [] h = ([], tt)
spaces_found (text ∷ ts) h = with_first (read text (λ n. h (inl n))) (spaces_found ts (λ s. h (inr s)))
  where
    with_first :
        (t : Triplet) × Reads text t → (ss : List Space) × AreSpaces ts ss →
        (ss : List Space) × AreSpaces (text ∷ ts) ss
    with_first (t, r) (ss, a) =
        let d = every (rows t) in
        (record { matrix = rows t; shift = origin_of t; snf = d.third } ∷ ss, (record { triplet = t; reads = r; matrix = refl; shift = refl; run = d; snf = refl }, a))

-- ---- the candidates of three lists

texts_of_lem :
    (ms ls : List ℕ) (ts : List (List ℕ)) → length ms ≡ length ts → length ls ≡ length ts →
    texts_of (candidates_from ms ls ts) ≡ ts
unfolding candidates_from
texts_of_lem [] ls [] e f = refl
texts_of_lem [] ls (t ∷ ts) e f = absurd (apart e)
  where
    apart : ◌≡◌ {A = ℕ} 0 (suc (length ts)) → ⊥
    apart h = omega arith
texts_of_lem (m ∷ ms) [] [] e f = refl
texts_of_lem (m ∷ ms) [] (t ∷ ts) e f = absurd (apart f)
  where
    apart : ◌≡◌ {A = ℕ} 0 (suc (length ts)) → ⊥
    apart h = omega arith
texts_of_lem (m ∷ ms) (l ∷ ls) [] e f = refl
texts_of_lem (m ∷ ms) (l ∷ ls) (t ∷ ts) e f = ap (λ r. t ∷ r) (texts_of_lem ms ls ts (less e) (less f))
  where
    less : {a b : ℕ} → suc a ≡ suc b → a ≡ b
    less h = omega arith

-- past 2, the texts of a letter call's candidates are the lent ones
pub alike_texts : (x : LetterArguments) → bad_letter_counts x ≡ false → texts_of (candidates_in x) ≡ x.texts
alike_texts x h = texts_of_lem x.multiplicities x.letters x.texts (like x.multiplicities ms) (like x.letters ls)
  where
    few : Bool
    few =
        bad_permutation_counts x.labelling.sites x.labelling.count x.labelling.images
        || too_many_candidates (length x.texts)

    unlike_ms : Bool
    unlike_ms = unlike (length x.multiplicities) (length x.texts)

    unlike_ls : Bool
    unlike_ls = unlike (length x.letters) (length x.texts)

    front : (few || unlike_ms || unlike_ls) ≡ false
    front = neither_left (few || unlike_ms || unlike_ls) (unlike (length x.labelling.mapping) (length x.positions)) h

    ls : unlike_ls ≡ false
    ls = neither_right (few || unlike_ms) unlike_ls front

    ms : unlike_ms ≡ false
    ms = neither_right few unlike_ms (neither_left (few || unlike_ms) unlike_ls front)

    like : (l : List ℕ) → unlike (length l) (length x.texts) ≡ false → length l ≡ length x.texts
    like l u = eqb-true (length l) (length x.texts) (not-false _ u)
