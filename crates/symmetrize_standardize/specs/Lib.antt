-- The whole call: what its steps are proved against.
pub mod Stages
pub mod Given
