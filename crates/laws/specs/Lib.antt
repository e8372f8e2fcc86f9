-- Laws that several crates cite.
-- Tests, lists, counts over lists, lent lists that are filled; the order of the numbers, and from tests to a verdict; floats by their values.
pub mod Tests
pub mod Lists
pub mod Counting
pub mod Filling
pub mod Limits
pub mod Order
pub mod Verdicts
pub mod Floats
