-- The match of a prepared candidate, as the code has it.
pub mod Match
