-- Laws of the job's readers by places: operands of a fixed width, runs of commands, the whole job.
pub mod Items
pub mod Fixed
pub mod Runs
pub mod Whole
pub mod Words
pub mod CountedRun
pub mod Jobs
pub mod Rooms
pub mod Promise
