-- What a call answers, tests that a condition joins, and the laws of permutations.
pub mod Answers
pub mod Bijection
pub mod Swap
