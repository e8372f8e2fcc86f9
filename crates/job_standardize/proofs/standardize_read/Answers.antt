-- The lists have just the room of the job: they are its lists, and the call on lists answers.
use Rattle.job.specs.Given.{given_in}
use Rattle.symmetrize_standardize.specs.Given.{answer_cells}
use Rattle.job_standardize.specs.Rooms.{read_promise}
use Rattle.job_standardize.proofs.standardize_read.Goals as goal

pub returns-clause-standardized : goal.returns-clause-standardized
returns-clause-standardized c =
    let a = c.args in
    read_promise a.bytes.now a.k (given_in a.lists.now) (given_in c.read_counted.new.lists) c.requires c.read_counted.ensures.read
    (answer_cells a.answer.now) (answer_cells c.standardize_lists.new.answer) c.standardize_lists.result c.standardize_lists.ensures.standardized
