-- The diagonalising run: one a matrix, found by running it, and what every run has.
pub mod Unique
pub mod Evaluate
pub mod Steps
pub mod Pivot
pub mod Cases
pub mod Stable
pub mod Kept
pub mod Entries
pub mod Done
pub mod Numbers
pub mod Reduced
pub mod Stages
pub mod Runs
pub mod Begun
pub mod Passes
