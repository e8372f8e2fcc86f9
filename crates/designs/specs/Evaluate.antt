-- The outcome of a job, found by deciding its conditions and doing its work, with the evidence that the definitions ask
-- for.
-- Where something could not be settled in the passes that are let, there is no outcome: nothing is guessed.
use Rattle.std.specs.Prelude.{ℕ, ◌≤◌, ◌≡◌, Bool, not, length, get_or, leb, ltb, ℤ, Float}
use Rattle.std.proofs.Common.{lt_irrefl, lt_of_le_of_lt, sym, ap, ◌∙◌, subst, inl, inr, leb→le}
use Rattle.std.proofs.Math.Path.{refl}
use Rattle.std.proofs.Math.Bool.{true, false}
use mathlib.Core.List.{List, [], ◌∷◌, map}
use Rattle.std.proofs.Math.Option.{Option, none, some, none-ne-some, some-injective}
use Rattle.std.proofs.Math.Pow.{are_bytes}
use Rattle.std.proofs.Math.Dec.{T}
use Rattle.definitions.specs.declared.Position.{Position}
use Rattle.std.specs.Prelude as Rust
use Rattle.definitions.specs.declared.Fit.{Fit}
use Rattle.definitions.specs.Lists.{Some, all}
use Rattle.definitions.specs.Refusal.{◌when◌, Applies, NoneOf, precedence, Outcome, accepted, refused, Returns, job_bytes, upto}
use Rattle.definitions.specs.Matrix.{Matrix, identity}
use Rattle.definitions.specs.Real.{RealMatrix, real}
use Rattle.definitions.specs.Snf.{Run, all_assigned, Leaves, points}
use Rattle.math_snf_laws.specs.Unique.{run_unique, stays}
use Rattle.math_snf_laws.specs.Evaluate.{run}
use Rattle.definitions.specs.Coordinates.{Triplet, Reads, Readable, spaceless, in_range, rows, origin_of}
use Rattle.definitions.specs.Job.{Parts, Job, IsJob, NoJob, job_of}
use Rattle.definitions.specs.Permutation.{is_permutation}
use Rattle.definitions.specs.Transformation.{aligned, target_absent}
use Rattle.definitions.specs.Symmetrization.{primitive_positions, lattice_fails, old_basis}
use Rattle.definitions.specs.Cell.{site_mapping, listed_positions}
use Rattle.definitions.specs.Orbit.{Labels}
use Rattle.definitions.specs.Wyckoff.{Space, IsSpace, match_of, texts_of, AreSpaces, Lettering, Found, sites_of, orbit_without_fit}
use Rattle.definitions.specs.Standardize.{site_count, listed_count, bad_counts, bad_entry, bad_float, bad_image, bad_determinant, TextLeaves, Rooms, too_short, lettering_of, Work, NoFit, Rule, bytes_rules, job_conditions, OfParts, bytes_conditions, Answer, answer_of, BytesReturn}
use Rattle.definitions.specs.Limits.{small, copies, most_bytes, too_many_listed}
use Rattle.data_wyckoff_laws.specs.Reader.{parse}
use Rattle.data_wyckoff_laws.specs.Reading.{read_unique, parse_reads, parse_none}
use Rattle.base_cell.specs.Classes.{classes}
use Rattle.base_cell.specs.Labels.{labels_by}
use Rattle.base_cell.proofs.ClassLabels.{labels_computed}
use Rattle.symmetrize_wyckoff_laws.specs.Unique.{sites_unique}
use Rattle.job_laws.specs.Decode.{decode}
use Rattle.job_laws.proofs.Decode.{decode_sound, not_a_job, job_unique}
use Rattle.designs.specs.Computed.{computed}
use Rattle.laws.specs.Verdicts.{Tested, holds, fails, untested, either, TestedAll, Found as Verdict, clear, first, unknown, scan}

unfoldable pub test : (b : Bool) → Tested (T b)
test true = holds tt
test false = fails (λ t. t)

-- how many passes a stage is let
abbrev passes : ℕ
passes = 200

-- ---- 6 and 8

negated : {P : Type 0} → Tested P → Tested (P → ⊥)
negated (holds p) = fails (λ n. n p)
negated (fails n) = holds n
negated untested = untested

some_of : {A : Type 0} (P : A → Type 0) → ((a : A) → Tested (P a)) → (l : List A) → Tested (Some P l)
unfolding Some either
some_of P d [] = fails (λ x. x)
some_of P d (a ∷ l) = either (d a) (some_of P d l)

module _ (text : List ℕ) where
  is_in_range : (t : Triplet) → Reads text t → (b : Bool) → in_range t ≡ b → Tested (Readable text)
  is_in_range t r true e = holds (t, r, subst T (sym e) tt)
  is_in_range t r false e = fails (λ x. subst T (ap in_range (read_unique text x.0 t x.1 r) ∙ e) x.2)

  by_tree : (o : Option Triplet) → parse (spaceless text) ≡ o → Tested (Readable text)
  unfolding is_in_range
  by_tree none e = fails (λ x. parse_none text e x.0 x.1)
  by_tree (some t) e = is_in_range t (parse_reads text t e) (in_range t) refl

unfoldable readable : (text : List ℕ) → Tested (Readable text)
unfolding by_tree
readable text = by_tree text (parse (spaceless text)) refl

module _ {m : Matrix} where
  by_entries : (r : Run m) (b : Bool) → all small (all_assigned r) ≡ b → Tested (Leaves m)
  by_entries r true e = fails (stays r (subst T (sym e) tt))
  by_entries r false e = holds (r, subst (λ b. T (not b)) (sym e) tt)

  by_run : Option (Run m) → Tested (Leaves m)
  unfolding by_entries
  by_run none = untested
  by_run (some r) = by_entries r (all small (all_assigned r)) refl

unfoldable pub leaves : (m : Matrix) → Tested (Leaves m)
unfolding by_run
leaves m = by_run (run passes m)

module _ (text : List ℕ) where
  of_tree : (t : Triplet) → Reads text t → Tested (Leaves (rows t)) → Tested (TextLeaves text)
  of_tree t r (holds l) = holds (t, r, l)
  of_tree t r (fails n) = fails (λ x. n (subst (λ u. Leaves (rows u)) (read_unique text x.0 t x.1 r) x.2))
  of_tree t r untested = untested

  of_text : (o : Option Triplet) → parse (spaceless text) ≡ o → Tested (TextLeaves text)
  unfolding of_tree leaves
  of_text none e = fails (λ x. parse_none text e x.0 x.1)
  of_text (some t) e = of_tree t (parse_reads text t e) (leaves (rows t))

unfoldable text_leaves : (text : List ℕ) → Tested (TextLeaves text)
unfolding of_text
text_leaves text = of_text text (parse (spaceless text)) refl

-- ---- the work

spaces_with :
    (t : List ℕ) (ts : List (List ℕ)) → Option ((s : Space) × IsSpace t s) → Option ((ss : List Space) × AreSpaces ts ss) →
    Option ((ss : List Space) × AreSpaces (t ∷ ts) ss)
unfolding AreSpaces
spaces_with t ts none q = none
spaces_with t ts (some p) none = none
spaces_with t ts (some p) (some q) = some (p.0 ∷ q.0, (p.1, q.1))

module _ (text : List ℕ) where
  space_of : (t : Triplet) → Reads text t → Option (Run (rows t)) → Option ((s : Space) × IsSpace text s)
  space_of t r none = none
  space_of t r (some d) =
      some (
        record { matrix = rows t; shift = origin_of t; snf = d.third },
        record { triplet = t; reads = r; matrix = refl; shift = refl; run = d; snf = refl },
      )

  space_from : (o : Option Triplet) → parse (spaceless text) ≡ o → Option ((s : Space) × IsSpace text s)
  unfolding space_of
  space_from none e = none
  space_from (some t) e = space_of t (parse_reads text t e) (run passes (rows t))

unfoldable spaces : (ts : List (List ℕ)) → Option ((ss : List Space) × AreSpaces ts ss)
unfolding space_from spaces_with AreSpaces
spaces [] = some ([], tt)
spaces (t ∷ ts) = spaces_with t ts (space_from t (parse (spaceless t)) refl) (spaces ts)

-- labels need permutations, and a mapping into their sites
labelled : (n : ℕ) (ps : List (List ℕ)) (mapping : List ℕ) (a b : Bool) → all (is_permutation n) ps ≡ a → all (λ i. ltb i n) mapping ≡ b → Option ((ls : List ℕ) × Labels ps mapping ls)
labelled n ps mapping false b e f = none
labelled n ps mapping true false e f = none
labelled n ps mapping true true e f =
    some (labels_by (classes n ps) mapping, labels_computed n ps mapping (subst T (sym e) tt) (subst T (sym f) tt))

module _ (j : Job) (r : Run j.c) where
  found_of : Option ((ss : List Space) × AreSpaces (texts_of j.candidates) ss) → Option ((ls : List ℕ) × Labels (aligned j) (site_mapping (site_count j) (copies j.c)) ls) → Option (Work j)
  found_of none q = none
  found_of (some p) none = none
  found_of (some p) (some q) = some (record { run = r; found = record { spaces = p.0; are_spaces = p.1; labels = q.0; are_labels = q.1 } })

work_of : (j : Job) → Option (Run j.c) → Option (Work j)
unfolding found_of spaces labelled
work_of j none = none
work_of j (some r) =
    found_of j r (spaces (texts_of j.candidates))
    (labelled (site_count j) (aligned j) (site_mapping (site_count j) (copies j.c))
    (all (is_permutation (site_count j)) (aligned j))
    (all (λ i. ltb i (site_count j)) (site_mapping (site_count j) (copies j.c)))
    refl
    refl)

unfoldable work : (j : Job) → Option (Work j)
unfolding work_of
work j = work_of j (run passes j.c)

-- ---- 13

-- the fits that one work finds are those of any other
pub same_fit : {j : Job} (w : Work j) (r : Run j.c) (f : Found (lettering_of j r)) → orbit_without_fit (sites_of f) ≡ orbit_without_fit (sites_of w.found)
same_fit {j} w r f = by (points r.third) (ap points (run_unique r w.run)) f
  where
    lettering : List (List ℤ) → Lettering
    lettering pts =
        record {
          permutations = (lettering_of j r).permutations;
          mapping = (lettering_of j r).mapping;
          positions = listed_positions j.c (primitive_positions j) pts;
          basis = (lettering_of j r).basis;
          candidates = j.candidates;
          symprec = j.symprec;
        }

    by : (pts : List (List ℤ)) → pts ≡ points w.run.third → (f : Found (lettering pts)) → orbit_without_fit (sites_of f) ≡ orbit_without_fit (sites_of w.found)
    by pts e =
        subst (λ q. (f : Found (lettering q)) → orbit_without_fit (sites_of f) ≡ orbit_without_fit (sites_of w.found)) (sym e)
        (λ f. ap orbit_without_fit (sites_unique f w.found))

module _ (j : Job) where
  by_fit : (w : Work j) (b : Bool) → orbit_without_fit (sites_of w.found) ≡ b → Tested (NoFit j)
  by_fit w true e = holds (w.run, (w.found, subst T (sym e) tt))
  by_fit w false e = fails (λ x. subst T (same_fit w x.0 x.1.0 ∙ e) x.1.1)

  by_work : Option (Work j) → Tested (NoFit j)
  unfolding by_fit
  by_work none = untested
  by_work (some w) = by_fit w (orbit_without_fit (sites_of w.found)) refl

unfoldable no_fit : (j : Job) → Tested (NoFit j)
unfolding by_work work
no_fit j = by_work j (work j)

-- ---- the outcome

decided : (j : Job) (rooms : Rooms) → TestedAll (job_conditions j rooms)
unfolding TestedAll test some_of negated readable leaves text_leaves no_fit either
decided j rooms = (
  test (bad_counts j),
  (
    test (bad_entry j),
    (
      test (bad_float j),
      (
        test (bad_image j),
        (
          some_of (λ text. Readable text → ⊥) (λ text. negated (readable text)) (texts_of j.candidates),
          (
            test (bad_determinant j),
            (
              either (leaves j.c) (some_of TextLeaves text_leaves (texts_of j.candidates)),
              (
                test (too_many_listed (listed_count j)),
                (
                  test (too_short j rooms),
                  (
                    test (target_absent j),
                    (
                      test (lattice_fails (old_basis j) j.rotations),
                      (
                        no_fit j,
                        tt,
                      ),
                    ),
                  ),
                ),
              ),
            ),
          ),
        ),
      ),
    ),
  ),
)

-- ---- on bytes

-- what is decided of the job is decided of its bytes
module _ (bs : List ℕ) (p : Parts) (i : IsJob bs p) where
  of_parts : (P : Parts → Type 0) → Tested (P p) → Tested (OfParts bs P)
  of_parts P (holds h) = holds (p, i, h)
  of_parts P (fails n) = fails (λ x. n (subst P (job_unique bs x.0 p x.1 i) x.2))
  of_parts P untested = untested

  of_rules : (rs : List (Rule Parts)) → TestedAll (map (λ r. r.number when r.holds p) rs) → TestedAll (map (λ r. r.number when OfParts bs r.holds) rs)
  unfolding TestedAll of_parts
  of_rules [] ds = tt
  of_rules (r ∷ rs) ds = (of_parts r.holds ds.0, of_rules rs ds.1)

abbrev Settled : List ℕ → Rooms → Type 0
Settled bs rooms = (o : Outcome Answer) × BytesReturn bs rooms o

no_job : (bs : List ℕ) (rooms : Rooms) → NoJob bs → Settled bs rooms
unfolding Returns Applies NoneOf upto precedence
no_job bs rooms n = (refused job_bytes, (inl n, tt))

module _ (bs : List ℕ) (rooms : Rooms) (p : Parts) (i : IsJob bs p) where
  pub is_job : length bs ≤ most_bytes → NoJob bs → ⊥
  is_job h (inl l) = lt_irrefl (length bs) (lt_of_le_of_lt h l)
  is_job h (inr n) = n p i

  answered : NoneOf (bytes_conditions bs rooms) precedence → Option (Work (job_of p)) → Option (Settled bs rooms)
  unfolding Returns
  answered n none = none
  answered n (some w) = some (accepted (answer_of w), (n, (p, i, (w, refl))))

  settled : Verdict (bytes_conditions bs rooms) precedence → Option (Settled bs rooms)
  unfolding answered Returns work
  settled (clear n) = answered n (work (job_of p))
  settled (first k a n) = some (refused k, (a, n))
  settled unknown = none

  by_length : (b : Bool) → leb (length bs) most_bytes ≡ b → Option (Settled bs rooms)
  unfolding settled of_rules decided scan TestedAll
  by_length false e = none
  by_length true e =
      settled
      (scan (bytes_conditions bs rooms)
      (fails (is_job (leb→le (length bs) most_bytes (subst T (sym e) tt))), of_rules bs p i (bytes_rules rooms) (decided (job_of p) rooms))
      precedence)

by_bytes : (bs : List ℕ) (rooms : Rooms) (p : Parts) → decode bs ≡ some p → (b : Bool) → are_bytes bs ≡ b → Option (Settled bs rooms)
unfolding by_length
by_bytes bs rooms p e false f = none
by_bytes bs rooms p e true f = by_length bs rooms p (decode_sound bs p e (subst T (sym f) tt)) (leb (length bs) most_bytes) refl

by_parts : (bs : List ℕ) (rooms : Rooms) (o : Option Parts) → decode bs ≡ o → Option (Settled bs rooms)
unfolding by_bytes no_job
by_parts bs rooms none e = some (no_job bs rooms (inr (not_a_job bs e)))
by_parts bs rooms (some p) e = by_bytes bs rooms p e (are_bytes bs) refl

-- What the whole call on these bytes returns. Whoever unfolds it unfolds all that the definitions compute with.
unfoldable pub evaluate : (bs : List ℕ) (rooms : Rooms) → Option (Settled bs rooms)
unfolding by_parts computed
evaluate bs rooms = by_parts bs rooms (decode bs) refl

-- ---- a table of whole jobs

pub record Whole : Type 0 where
  pub bytes : List ℕ
  pub rooms : Rooms
  pub outcome : Outcome Answer

-- the definitions say that it returns this
abbrev pub Returned : Whole → Type 0
Returned w = BytesReturn w.bytes w.rooms w.outcome

abbrev outcome_in : {A : Type 0} {P : A → Type 0} → Option ((a : A) × P a) → Option A
outcome_in none = none
outcome_in (some s) = some s.0

abbrev pub evaluated : Whole → Option (Outcome Answer)
evaluated w = outcome_in (evaluate w.bytes w.rooms)

-- what is found with its evidence is what is expected
found_is : {A : Type 0} (P : A → Type 0) (s : Option ((a : A) × P a)) (a : A) → outcome_in s ≡ some a → P a
found_is P none a e = absurd (none-ne-some a e)
found_is P (some s) a e = subst P (some-injective s.0 a e) s.1

-- from the outcome that is found to the statement
pub returned : (w : Whole) → evaluated w ≡ some w.outcome → Returned w
returned w e = found_is (BytesReturn w.bytes w.rooms) (evaluate w.bytes w.rooms) w.outcome e

-- ---- a table of matches in the unit cell

pub record Matched : Type 0 where
  pub position : Position
  pub text : List ℕ
  pub symprec : Float
  pub match : Rust.Option Fit

abbrev unit_cell : RealMatrix
unit_cell = real identity

pub record IsMatch (position : Position) (text : List ℕ) (symprec : Float) (m : Rust.Option Fit) : Type 0 where
  pub space : Space
  pub is_space : IsSpace text space
  pub is_match : match_of unit_cell symprec space position ≡ m

abbrev pub MatchedRight : Matched → Type 0
MatchedRight m = IsMatch m.position m.text m.symprec m.match

match_of_lem : (position : Position) (text : List ℕ) (symprec : Float) → Option ((s : Space) × IsSpace text s) → Option ((m : Rust.Option Fit) × IsMatch position text symprec m)
match_of_lem position text symprec none = none
match_of_lem position text symprec (some s) = some (match_of unit_cell symprec s.0 position, record { space = s.0; is_space = s.1; is_match = refl })

unfoldable match_found : (m : Matched) → Option ((r : Rust.Option Fit) × IsMatch m.position m.text m.symprec r)
unfolding match_of_lem space_from computed
match_found m = match_of_lem m.position m.text m.symprec (space_from m.text (parse (spaceless m.text)) refl)

unfoldable pub match_evaluated : Matched → Option (Rust.Option Fit)
unfolding match_found
match_evaluated m = outcome_in (match_found m)

pub matched : (m : Matched) → match_evaluated m ≡ some m.match → MatchedRight m
unfolding match_evaluated
matched m e = found_is (IsMatch m.position m.text m.symprec) (match_found m) m.match e

-- the outcome of the k-th job of a table
abbrev pub outcome_at : List Whole → ℕ → Outcome Answer
outcome_at ws k = get_or (map (λ w. w.outcome) ws) k (refused 0)
