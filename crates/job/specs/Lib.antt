-- The bytes of a job: where each part stands, and what is read there.
pub mod Places
pub mod Words
pub mod Counted
pub mod Given
pub mod Alone
