-- What was counted is what the call promises.
use Rattle.job.proofs.Promise.{count_kept}
use Rattle.job.proofs.count_job.Goals as goal

pub returns : goal.returns
returns c = count_kept _ _ c.counted.ensures
