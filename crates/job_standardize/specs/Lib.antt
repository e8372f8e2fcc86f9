-- The lists that a job's bytes are read into are the job.
pub mod Given
pub mod Bytes
pub mod Counts
pub mod Counted
pub mod Rooms
