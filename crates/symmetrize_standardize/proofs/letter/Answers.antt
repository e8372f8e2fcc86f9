-- `letter`: every orbit has its letter, and there are so many.
use mathlib.Core.Path.{ap}
use mathlib.Core.Bool.{true}
use Rattle.std.specs.Prelude.{Ok}
use Rattle.symmetrize_standardize.proofs.letter.Goals as goal

pub returns-clause-lettered : goal.returns-clause-lettered
returns-clause-lettered c =
    (true, c.in_ok-label_and_letter.ensures.lettered, ap (λ n. Ok (record { sites = c.args.work.now.listed; orbits = n })) c.orbits_of.ensures)
