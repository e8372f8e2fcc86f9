-- The counts are legal; else every lent cell is cleared.
use Rattle.symmetrize_standardize.specs.Given.{answer_cells}
use Rattle.job_standardize.proofs.standardize_bytes.Goals as goal

pub returns-in-Err-clause-standardized : goal.returns-in-Err-clause-standardized
returns-in-Err-clause-standardized c =
    c.in-Err.ensures (answer_cells c.args.answer.now) (answer_cells c.clear.new.self) c.clear.ensures.cleared
