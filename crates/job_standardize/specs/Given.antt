-- The lists of a job's parts, taken as arguments of the call on lists, are the job that the parts are.
use Rattle.std.specs.Prelude.{◌≡◌, refl, false, not, List, [], ◌∷◌, map, length}
use Rattle.std.proofs.Common.{sym, ap, ◌∙◌, eq-eqb}
use Rattle.std.proofs.lemmas.List.{length-map}
use Rattle.definitions.specs.Job.{Parts, SitePart, OperationPart, CandidatePart}
use Rattle.definitions.specs.Job.{position_of, rows_of, site_of, operation_of, candidate_of, job_of}
use Rattle.definitions.specs.Lent.{cells_of, sites_from, operations_from, candidates_from, unlike}
use Rattle.definitions.specs.WholeCalls.{job_from, unlike_lists, given_of}
use Rattle.laws.specs.Tests.{neither}

sites_are :
    (ss : List SitePart) →
    sites_from (map (λ s. s.element) ss) (map (λ s. cells_of (position_of s.position)) ss) ≡ map site_of ss
unfolding sites_from
sites_are [] = refl
sites_are (s ∷ ss) = ap (λ l. site_of s ∷ l) (sites_are ss)

operations_are :
    (os : List OperationPart) →
    operations_from (map (λ o. rows_of o.rotation) os) (map (λ o. cells_of (position_of o.translation)) os)
    ≡ map operation_of os
unfolding operations_from
operations_are [] = refl
operations_are (o ∷ os) = ap (λ l. operation_of o ∷ l) (operations_are os)

candidates_are :
    (ws : List CandidatePart) →
    candidates_from (map (λ w. w.multiplicity) ws) (map (λ w. w.letter) ws) (map (λ w. w.text) ws)
    ≡ map candidate_of ws
unfolding candidates_from
candidates_are [] = refl
candidates_are (w ∷ ws) = ap (λ l. candidate_of w ∷ l) (candidates_are ws)

-- the lists that are read are the job
pub job_given : (p : Parts) → job_from (given_of p) ≡ job_of p
unfolding job_from given_of job_of
job_given p = λ i.
    record {
      lattice = (job_of p).lattice;
      t = (job_of p).t;
      shift = (job_of p).shift;
      c = (job_of p).c;
      sites = sites_are p.sites i;
      operations = operations_are p.operations i;
      images = p.images;
      targets = operations_are p.targets i;
      rotations = (job_of p).rotations;
      candidates = candidates_are p.candidates i;
      symprec = (job_of p).symprec;
    }

-- lists of one length, made of one list
alike : {A B C : Type 0} (f : A → B) (g : A → C) (l : List A) → unlike (length (map f l)) (length (map g l)) ≡ false
alike f g l = ap not (eq-eqb (length (map f l)) (length (map g l)) (length-map l f ∙ sym (length-map l g)))

-- lists that belong together are of one length
pub like_lists : (p : Parts) → unlike_lists (given_of p) ≡ false
unfolding given_of
like_lists p =
    neither
    (neither
    (neither
    (neither (alike (λ s. s.element) (λ s. cells_of (position_of s.position)) p.sites)
    (alike (λ o. cells_of (position_of o.translation)) (λ o. rows_of o.rotation) p.operations))
    (alike (λ o. cells_of (position_of o.translation)) (λ o. rows_of o.rotation) p.targets))
    (alike (λ w. w.multiplicity) (λ w. w.text) p.candidates))
    (alike (λ w. w.letter) (λ w. w.text) p.candidates)
