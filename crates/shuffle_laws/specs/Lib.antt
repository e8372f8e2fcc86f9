-- What the rules of a shuffle make, and what the call says.
pub mod Shuffled
pub mod Call
