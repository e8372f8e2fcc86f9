-- The answer to lists past 12, or 13: the sub-calls' parts are the answer of one work on the job.
use Prim.Native.Nat.{ℕ, ◌*◌, ◌≤◌, ◌<◌}
use mathlib.Core.Path.{◌≡◌, refl, sym, ap, ◌∙◌, subst}
use mathlib.Core.Bool.{Bool, true, false, not, ◌&&◌, cond}
use mathlib.Core.List.{List, [], ◌∷◌, map}
use native.Mathlib.Omega.{arith}
use lib.ListN.{length, get_or, length-map}
use lib.Dec.{T, ltb}
use borrow.Author.Tests.{le-ltb, lt-ltb, eq-eqb}
use Rattle.std.specs.Prelude.{Err, Ok}
use Rattle.definitions.specs.declared.Refusal.TheVariants.{OrbitFit}
use Rattle.definitions.specs.Lists.{all, any, Each}
use Rattle.definitions.specs.Refusal.{Checked, Holds}
use Rattle.definitions.specs.Limits.{copies, too_many_listed, too_many_candidates, shorter_than}
use Rattle.definitions.specs.Snf.{Run, points}
use Rattle.definitions.specs.Job.{Job}
use Rattle.definitions.specs.Lent.{cells_of, unlike}
use Rattle.definitions.specs.Transformation.{aligned}
use Rattle.definitions.specs.Symmetrization.{primitive_positions, listed_cell_basis}
use Rattle.definitions.specs.Cell.{site_mapping, listed_positions}
use Rattle.definitions.specs.Orbit.{Labels, multiplicities}
use Rattle.definitions.specs.Wyckoff.{Space, AreSpaces, Sites, sites_of, orbit_without_fit, letters}
use Rattle.definitions.specs.SiteCalls.{AssignArguments, sites_in, space_rooms, assignable, all_lettered, Assigned}
use Rattle.definitions.specs.Standardize.{Rooms, site_count, Work, NoFit}
use Rattle.definitions.specs.WholeCalls.{Given, job_from}
use Rattle.laws.specs.Tests.{so, not_so}
use Rattle.laws.specs.Counting.{all_of}
use Rattle.laws.specs.Verdicts.{HoldsAt, Passed, pass, found_at_lem, found_none, refuse, accept, verdict_of}
use Rattle.math_matrix.specs.Laws.{Three}
use Rattle.base_cell.proofs.Tables.{length-multiplicities}
use Rattle.base_transformation_laws.proofs.Listed.{positions_count as listed-count}
use Rattle.symmetrize_wyckoff_laws.specs.Unique.{equal_sites}
use Rattle.symmetrize_wyckoff.specs.Unfit.{lettered_or_unfit}
use Rattle.symmetrize_standardize_laws.specs.Same.{same-design}
use Rattle.symmetrize_standardize.proofs.Facts.{of_texts}
use Rattle.symmetrize_standardize.proofs.Ladder.{conditions}
use Rattle.symmetrize_standardize.proofs.Together.{length-spaces}
use Rattle.symmetrize_standardize.proofs.Parts.{none_pass, cells_back, length-cells}
use Rattle.symmetrize_standardize.proofs.Choices.{tables_of, choices_are}
use Rattle.symmetrize_standardize.proofs.Past.{known_like, known_within, known_regular, known_listed}
use Rattle.symmetrize_standardize.proofs.Done.{primitive_count}

-- ---- tests of lists

alike : (a b : ℕ) → a ≡ b → unlike a b ≡ false
alike a b e = ap not (eq-eqb _ _ e)

-- six tests in a row
six-pass : {a b c d e f : Bool} → a ≡ false → b ≡ false → c ≡ false → d ≡ false → e ≡ false → f ≡ true → (not a && not b && not c && not d && not e && f) ≡ true
six-pass p q r s u v = rw (p, q, r, s, u, v)

-- ---- what was found

module _ (x : Given) (rooms : Rooms) (p : Passed (conditions x rooms) 12) (shape : Three x.c) (r : Run x.c)
    (ss : List Space) (spaces : AreSpaces x.texts ss)
    (ls : List ℕ) (labels : Labels (aligned (job_from x)) (site_mapping (site_count (job_from x)) (copies x.c)) ls)
    (long : length ls ≡ length x.positions * copies x.c) where
  abbrev j : Job
  j = job_from x

  abbrev n : ℕ
  n = length x.positions

  abbrev m : ℕ
  m = copies x.c

  unfoldable pub work : Work (job_from x)
  unfolding job_from
  work =
      record {
        run = r;
        found =
            record {
              spaces = ss;
              are_spaces = subst (λ ts. AreSpaces ts ss) (sym (of_texts x (known_like x rooms p))) spaces;
              labels = ls;
              are_labels = labels;
            };
      }

  abbrev sites : Sites
  sites = sites_of work.found

  -- what is lettered
  abbrev pub lettering : AssignArguments
  lettering =
      record {
        labels = ls;
        multiplicities = multiplicities ls;
        positions = map cells_of (listed_positions x.c (primitive_positions (job_from x)) (points r.third));
        basis = listed_cell_basis (job_from x);
        symprec = x.symprec;
        candidates = x.multiplicities;
        letters = x.letters;
        spaces = tables_of ss;
      }

  sites_are : sites_in lettering ≡ sites_of work.found
  unfolding job_from work
  sites_are =
      let like = known_like x rooms p in
      let lp = listed_positions x.c (primitive_positions j) (points r.third) in
      let named = choices_are lettering x.texts ss refl like.multiplicities like.letters (length-spaces x.texts ss spaces) in
      λ i.
      record {
        positions = cells_back lp i;
        labels = ls;
        multiplicities = multiplicities ls;
        basis = listed_cell_basis j;
        choices = named i;
        symprec = x.symprec;
      }

  can_assign : (room : ℕ) → length x.positions * copies x.c ≤ room → assignable lettering room ≡ true
  unfolding Each
  can_assign room h =
      let like = known_like x rooms p in
      let lp = listed_positions x.c (primitive_positions j) (points r.third) in
      let c = length x.multiplicities in
      let texts : length ss ≡ c = length-spaces x.texts ss spaces ∙ sym like.multiplicities in
      let placed : length (map cells_of lp) ≡ length ls =
      length-cells lp ∙ listed-count shape (known_regular x rooms p) r [] (primitive_positions j) ∙ ap (λ s. s * m) (primitive_count x rooms p) ∙ sym long in
      let few : too_many_listed (length ls) ≡ false = ap too_many_listed long ∙ le-ltb _ _ (known_listed x rooms p) in
      let candidates : too_many_candidates c ≡ false = ap too_many_candidates like.multiplicities ∙ (known_within x rooms p).candidates in
      let two : any (unlike (length ls)) (length (multiplicities ls) ∷ length (map cells_of lp) ∷ []) ≡ false =
      none_pass (unlike (length ls)) (length (multiplicities ls) ∷ length (map cells_of lp) ∷ [])
      (alike (length ls) _ (sym (length-multiplicities ls)), (alike (length ls) _ (sym placed), tt)) in
      let tables : any (unlike c) (length x.letters ∷ space_rooms (tables_of ss)) ≡ false =
      none_pass (unlike c) (length x.letters ∷ space_rooms (tables_of ss)) (
        alike c _ (like.multiplicities ∙ sym like.letters),
        (
          alike c _ (sym (length-map ss (λ s. s.matrix) ∙ texts)),
          (
            alike c _ (sym (length-map ss (λ s. cells_of s.shift) ∙ texts)),
            (
              alike c _ (sym (length-map ss (λ s. s.snf.d) ∙ texts)),
              (
                alike c _ (sym (length-map ss (λ s. s.snf.l) ∙ texts)),
                (alike c _ (sym (length-map ss (λ s. s.snf.r) ∙ texts)), tt),
              ),
            ),
          ),
        ),
      ) in
      let enough : length ls ≤ room = omega (arith, long) in
      let fits : shorter_than (length ls) room ≡ false = le-ltb _ _ enough in
      let below : all (λ l. ltb l (length ls)) ls ≡ true =
      all_of (λ l. ltb l (length ls)) 0 ls (λ i h.
      let b : i < length (site_mapping (site_count j) m) = omega (arith, labels.each) in
      let g : get_or ls i 0 < length ls = omega (arith, labels.each, (labels.label i b).listed) in
      lt-ltb _ _ g) in
      six-pass few candidates two tables fits below

  pub letters_held :
      (entry exit : List ℕ) (whole : Bool) → length x.positions * copies x.c ≤ length entry → Assigned lettering entry exit whole →
      (whole ≡ not (orbit_without_fit (sites_of work.found))) × Holds 0 entry exit (cond whole (letters (sites_of work.found)) [])
  unfolding work
  letters_held entry exit whole room a = (
    a.judged
        ∙ ap (λ b. b && all_lettered (sites_in lettering)) (can_assign (length entry) room)
        ∙ ap all_lettered sites_are
        ∙ lettered_or_unfit (sites_of work.found) work.found.are_labels,
    subst (λ g. Holds 0 entry exit (cond whole (letters g) [])) sites_are a.letters,
  )

  -- ---- 13, or accepted

  thirteen : T (orbit_without_fit (sites_of work.found)) → NoFit (job_from x)
  unfolding job_from work
  thirteen h = (r, (work.found, h))

  fitting : orbit_without_fit (sites_of work.found) ≡ false → NoFit (job_from x) → ⊥
  unfolding job_from work
  fitting e u = not_so e (subst (λ g. T (orbit_without_fit g)) (equal_sites (same-design j u.0 r) u.1.0 work.found) u.1.1)

  pub accepted_past : orbit_without_fit (sites_of work.found) ≡ false → Checked (conditions x rooms) (Ok tt)
  unfolding HoldsAt verdict_of found_none
  accepted_past e = accept (conditions x rooms) (pass (conditions x rooms) 12 p (fitting e)) refl

  pub refused_there : orbit_without_fit (sites_of work.found) ≡ true → Checked (conditions x rooms) (Err OrbitFit)
  unfolding HoldsAt verdict_of found_at_lem
  refused_there e = refuse (conditions x rooms) 12 p (thirteen (so e)) (Err OrbitFit) refl
