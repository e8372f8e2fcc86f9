-- Laws of the loops.
pub mod Search
pub mod Making
pub mod Sums
pub mod Cells
pub mod Counts
pub mod Accepted
pub mod Moved
