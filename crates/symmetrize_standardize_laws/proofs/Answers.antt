-- Demand 3 of every call that returns what a job's conditions and answer say.
use Rattle.std.specs.Prelude.{ℕ, ◌*◌, ◌<◌, ◌≡◌, refl, length}
use Rattle.std.proofs.Common.{sym, ap, ◌∙◌, subst}
use Rattle.std.proofs.Math.Nat.{eq_of_mul-eq-mul_right}
use Rattle.definitions.specs.Refusal.{Past, orbit_fit, accepted, refused}
use Rattle.definitions.specs.Limits.{copies}
use Rattle.definitions.specs.Cell.{site_mapping}
use Rattle.definitions.specs.Transformation.{aligned}
use Rattle.definitions.specs.Job.{Job}
use Rattle.definitions.specs.Orbit.{multiplicities}
use Rattle.definitions.specs.Wyckoff.{Lettering, Found, Unfit, letters}
use Rattle.definitions.specs.Standardize.{site_count, lettering_of, JobReturns}
use Rattle.definitions.specs.Demand.{JoinTheSame, JoinTheSameBelow, Alike, AlikeJobs, WholeCall, lettering_call, PastBefore13}
use Rattle.definitions.specs.Demand.{HasDesign, CountsEachSiteOnce, HasJustTheFive, HasJustTheLetters, ThirteenExactly, TwoJobs, DemandOfWhole}
use Rattle.math_matrix.specs.Laws.{Three}
use Rattle.math_snf_laws.specs.Runs.{every}
use Rattle.base_cell.specs.Maps.{Permutations, permutations-map}
use Rattle.base_cell.specs.Rearranged.{joined_below}
use Rattle.symmetrize_wyckoff_laws.specs.Unique.{equal_sites}
use Rattle.symmetrize_wyckoff.specs.Lettered.{unfit_by, Letters, demand_of_lettering}
use Rattle.symmetrize_standardize_laws.specs.Found.{positions_count, copies_positive, aligned-permutations, design_found, work_found}
use Rattle.symmetrize_standardize_laws.specs.Same.{same-design}
use Rattle.symmetrize_standardize_laws.specs.Answers.{accepted_is, thirteen_is, is_thirteen, answer_copies, count, Answers}

-- ---- two jobs

-- jobs with one C and the same listed positions have the same number of sites
module _ (j j' : Job) (shape : Three j.c) (shape' : Three j'.c) (regular : 0 < copies j.c) (regular' : 0 < copies j'.c) (a : AlikeJobs j j') where
  same_count : site_count j ≡ site_count j'
  same_count = eq_of_mul-eq-mul_right (copies j.c) regular (site_count j) (site_count j') products
    where
      products : site_count j * copies j.c ≡ site_count j' * copies j.c
      products =
          sym (count j shape regular a.run) ∙ ap length a.positions ∙ count j' shape' regular' a.run'
          ∙ ap (λ c. site_count j' * copies c) (sym a.c)

  alike_designs : Alike (lettering_of j a.run) (lettering_of j' a.run')
  alike_designs =
      record {
        mapping = λ i. site_mapping (same_count i) (copies (a.c i));
        positions = a.positions;
        basis = a.basis;
        candidates = a.candidates;
        symprec = a.symprec;
      }

  joined_alike :
      Permutations (site_count j) (aligned j) → Permutations (site_count j') (aligned j') →
      JoinTheSameBelow (site_count j) (aligned j) (aligned j') → JoinTheSame (aligned j) (aligned j')
  joined_alike p p' =
      joined_below (site_count j) (aligned j) (aligned j') (permutations-map p)
      (permutations-map (subst (λ n. Permutations n (aligned j')) (sym same_count) p'))

-- ---- a call that answers jobs

module _ (c : WholeCall) (k : Answers c) where
  abbrev Before : c.Arguments → Lettering → Type 0
  Before = PastBefore13 (lettering_call c).fitting

  regular : (x : c.Arguments) (j : Job) → c.IsJob x j → Past orbit_fit (c.conditions x) → 0 < copies j.c
  regular x j i past = copies_positive j (k.rooms x) (k.past x j i past)

  each-site_once : CountsEachSiteOnce c
  each-site_once x j (i, past) =
      let w = work_found j (k.rooms x) (k.past x j i past) in
      (w, answer_copies j (k.shape x j i) (regular x j i past) w, positions_count j)

  just_the_five : HasJustTheFive c
  just_the_five x j (i, past) a h w = accepted_is j (k.rooms x) a (k.returns x j i past (accepted a) h) w

  just_the_letters : HasJustTheLetters (lettering_call c)
  just_the_letters x g ((j, i, r, e), past) a h f =
      let w = work_found j (k.rooms x) (k.past x j i past) in
      let q = accepted_is j (k.rooms x) a (k.returns x j i past (accepted a) h) w in
      let s = equal_sites (same-design j w.run r ∙ sym e) w.found f in
      (ap (λ b. b.labels) q ∙ ap (λ t. t.labels) s, ap (λ b. b.multiplicities) q ∙ ap (λ t. multiplicities t.labels) s, ap (λ b. b.letters) q ∙ ap letters s)

  found : (x : c.Arguments) (g : Lettering) → Before x g → Found g
  found x g ((j, i, r, e), past) = subst Found (sym e) (design_found j (k.rooms x) (k.past x j i past) r)

  has_design : HasDesign (lettering_call c).fitting
  has_design x past =
      let (j, i, u) = k.one_job x past in
      let r = every j.c in
      (lettering_of j r, (j, i, r, refl), design_found j (k.rooms x) (k.past x j i past) r)

  permute : (x : c.Arguments) (g : Lettering) → Before x g → (n : ℕ) × Permutations n g.permutations
  permute x g ((j, i, r, e), past) =
      (site_count j, subst (λ h. Permutations (site_count j) h.permutations) (sym e) (aligned-permutations j (k.rooms x) (k.past x j i past)))

  thirteen : ThirteenExactly (lettering_call c).fitting
  thirteen x g ((j, i, r, e), past) o h = (to, from)
    where
      f : Found g
      f = found x g ((j, i, r, e), past)

      answered : JobReturns j (k.rooms x) o
      answered = k.returns x j i past o h

      to : o ≡ refused orbit_fit → Unfit g
      to q =
          let n = thirteen_is j (k.rooms x) (subst (JobReturns j (k.rooms x)) q answered) in
          (f, unfit_by f (subst Unfit (same-design j n.0 r ∙ sym e) n.1))

      from : Unfit g → o ≡ refused orbit_fit
      from u = is_thirteen j (k.rooms x) (k.past x j i past) (r, subst Unfit e u) o answered

  letters_known : Letters (lettering_call c)
  letters_known =
      record { has_design = has_design; found = found; permute = permute; just_the_letters = just_the_letters; thirteen = thirteen }

  two-jobs : TwoJobs c
  two-jobs x x' j j' (i, past) (i', past') a same o o' p p' =
      let shape = k.shape x j i in
      let shape' = k.shape x' j' i' in
      let alike = alike_designs j j' shape shape' (regular x j i past) (regular x' j' i' past') a in
      let joined =
      joined_alike j j' shape shape' (regular x j i past) (regular x' j' i' past') a
      (aligned-permutations j (k.rooms x) (k.past x j i past)) (aligned-permutations j' (k.rooms x') (k.past x' j' i' past')) same in
      (demand_of_lettering (lettering_call c) letters_known).alike_free x x' (lettering_of j a.run) (lettering_of j' a.run')
      ((j, i, a.run, refl), past) ((j', i', a.run', refl), past') alike joined o o' p p'

  pub demand_of_whole : DemandOfWhole c
  demand_of_whole =
      record {
        one_job = k.one_job;
        each-site_once = each-site_once;
        just_the_five = just_the_five;
        letters = demand_of_lettering (lettering_call c) letters_known;
        two-jobs = two-jobs;
      }
