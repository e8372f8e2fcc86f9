-- The front that is lent is as long as the job has images.
use Prim.Native.Nat.{ℕ}
use lib.Seq.{length-take-le}
use Rattle.job_standardize.specs.Rooms.{front_length}
use Rattle.job_standardize.proofs.standardize_within.Goals as goal

pub standardize_counted-requires : goal.standardize_counted-requires
standardize_counted-requires g c = (c.requires.0, c.requires.1, length-take-le _ _ (front_length {A = ℕ} _ _ 0 c.requires.2))
