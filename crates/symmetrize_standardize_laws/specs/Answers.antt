-- Demand 3 of every call that returns what a job's conditions and answer say.
use Rattle.std.specs.Prelude.{◌*◌, ◌<◌, ◌≡◌, map, length}
use Rattle.std.proofs.Common.{ap, ◌∙◌, subst, inl}
use Rattle.std.proofs.Math.Logic.{⊎_elim}
use Rattle.definitions.specs.Lists.{any}
use Rattle.definitions.specs.Refusal.{Applies, precedence, Past, orbit_fit, Outcome, accepted, refused, Returns}
use Rattle.definitions.specs.Limits.{copies}
use Rattle.definitions.specs.Snf.{Run, points}
use Rattle.definitions.specs.Cell.{listed_positions, listed_points, site_mapping, listed_elements}
use Rattle.definitions.specs.Symmetrization.{primitive_positions}
use Rattle.definitions.specs.Job.{Job}
use Rattle.definitions.specs.SiteCalls.{listing_of}
use Rattle.definitions.specs.Standardize.{site_count, Rooms, Work, NoFit, job_conditions, lettering_of, Answer, answer_of, IsAnswer, JobReturns}
use Rattle.definitions.specs.Demand.{Copies, listed, WholeCall, IsOneJob}
use Rattle.laws.specs.Order.{numbered}
use Rattle.laws.proofs.Order.{refused_first}
use Rattle.math_matrix.specs.Laws.{Three}
use Rattle.base_transformation_laws.proofs.Listed.{positions_count as listed-count, listing-copies}
use Rattle.symmetrize_standardize_laws.specs.Found.{positions_count}
use Rattle.symmetrize_standardize_laws.specs.Same.{answer_unique}

-- ---- one job

module _ (j : Job) (rooms : Rooms) where
  -- an accepted answer is that of any work on the job
  pub accepted_is : (a : Answer) → JobReturns j rooms (accepted a) → (w : Work j) → a ≡ answer_of w
  unfolding Returns
  accepted_is a h w = h.1.1 ∙ answer_unique j h.1.0 w

  pub thirteen_is : JobReturns j rooms (refused orbit_fit) → NoFit j
  unfolding Returns Applies
  thirteen_is h = ⊎_elim (λ n. n) (λ n. absurd n) h.0

  pub is_thirteen : Past orbit_fit (job_conditions j rooms) → NoFit j → (o : Outcome Answer) → JobReturns j rooms o → o ≡ refused orbit_fit
  unfolding Applies numbered any precedence
  is_thirteen past n = refused_first (job_conditions j rooms) tt (IsAnswer j) orbit_fit (inl n) past

-- the copies of the answer
pub answer_copies : (j : Job) → Three j.c → 0 < copies j.c → (w : Work j) → Copies j.c (primitive_positions j) (listed (answer_of w))
answer_copies j shape regular w =
    subst (Copies j.c (primitive_positions j)) same
    (listing-copies shape regular w.run (map (λ s. s.element) j.sites) (primitive_positions j))
  where
    same : listing_of (map (λ s. s.element) j.sites) (primitive_positions j) w.run ≡ listed (answer_of w)
    same = λ i.
        record {
          positions = listed_positions j.c (primitive_positions j) (points w.run.third);
          points = listed_points (positions_count j i) (points w.run.third);
          mapping = site_mapping (positions_count j i) (copies j.c);
          elements = listed_elements (map (λ s. s.element) j.sites) (copies j.c);
        }

-- ---- two jobs

pub count : (j : Job) → Three j.c → 0 < copies j.c → (r : Run j.c) → length (lettering_of j r).positions ≡ site_count j * copies j.c
count j shape regular r =
    listed-count shape regular r (map (λ s. s.element) j.sites) (primitive_positions j) ∙ ap (λ n. n * copies j.c) (positions_count j)

-- ---- a call that answers jobs

-- The call returns for its arguments what the job's conditions and answer say, where it is past the refusals before 13.
pub record Answers (c : WholeCall) : Type 0 where
  pub rooms : c.Arguments → Rooms
  pub one_job : IsOneJob c
  pub shape : (x : c.Arguments) (j : Job) → c.IsJob x j → Three j.c
  pub past : (x : c.Arguments) (j : Job) → c.IsJob x j → Past orbit_fit (c.conditions x) → Past orbit_fit (job_conditions j (rooms x))
  pub returns : (x : c.Arguments) (j : Job) → c.IsJob x j → Past orbit_fit (c.conditions x) → (o : Outcome Answer) → c.Promises x o → JobReturns j (rooms x) o
