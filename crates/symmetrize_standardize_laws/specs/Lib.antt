-- The whole call: what its promise alone says of every answer and refusal.
pub mod Found
pub mod Same
pub mod Calls
pub mod Answers
pub mod Whole
pub mod Cells
