pub mod Value
pub mod Nearest
pub mod Cases
pub mod Rounded
pub mod Pattern
pub mod Sums
pub mod Fraction
