pub mod Answers
pub mod Lent
pub mod Runs
pub mod Copied
