-- The report's text, computed for the worked example of document 01 and for two others.
use Rattle.std.specs.Prelude.{◌≡◌, refl, [], ◌∷◌}
use Rattle.definitions.specs.Refusal.{refused}
use Rattle.definitions.specs.Report.{report}
use Rattle.definitions.specs.Lists.{up_from}
use Rattle.designs.specs.Evaluate.{outcome_at}
use Rattle.designs_jobs.specs.Jobs.{jobs}

-- "sites 2 orbits 1", "0 0 0 2 a", "1 0 0 2 a"
pub worked-report :
    report (outcome_at jobs 0)
    ≡ 115 ∷ 105 ∷ 116 ∷ 101 ∷ 115 ∷ 32 ∷ 50 ∷ 32 ∷ 111 ∷ 114 ∷ 98 ∷ 105 ∷ 116 ∷ 115 ∷ 32 ∷ 49 ∷ 10
    ∷ 48 ∷ 32 ∷ 48 ∷ 32 ∷ 48 ∷ 32 ∷ 50 ∷ 32 ∷ 97 ∷ 10
    ∷ 49 ∷ 32 ∷ 48 ∷ 32 ∷ 48 ∷ 32 ∷ 50 ∷ 32 ∷ 97 ∷ 10
    ∷ []
unfolding report up_from jobs
worked-report = refl

-- "sites 0 orbits 0", alone
pub no_sites-report :
    report (outcome_at jobs 5)
    ≡ 115 ∷ 105 ∷ 116 ∷ 101 ∷ 115 ∷ 32 ∷ 48 ∷ 32 ∷ 111 ∷ 114 ∷ 98 ∷ 105 ∷ 116 ∷ 115 ∷ 32 ∷ 48 ∷ 10 ∷ []
unfolding report up_from jobs
no_sites-report = refl

-- "refused 13"
pub refused_report : report (refused 13) ≡ 114 ∷ 101 ∷ 102 ∷ 117 ∷ 115 ∷ 101 ∷ 100 ∷ 32 ∷ 49 ∷ 51 ∷ 10 ∷ []
unfolding report
refused_report = refl
