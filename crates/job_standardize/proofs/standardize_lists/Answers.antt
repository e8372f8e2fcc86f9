-- `standardize_lists`: the shift is the position that its three floats are.
use Rattle.job.specs.Given.{given_in}
use Rattle.symmetrize_standardize.specs.Given.{answer_cells}
use Rattle.job_standardize.specs.Rooms.{same_shift}
use Rattle.job_standardize.proofs.standardize_lists.Goals as goal

pub returns-clause-standardized : goal.returns-clause-standardized
returns-clause-standardized c =
    same_shift (given_in c.args.lists.now) _ _ c.from.ensures (answer_cells c.args.answer.now) (answer_cells c.standardize.new.answer)
    c.standardize.result c.standardize.ensures.standardized
