pub mod Shape
pub mod Sizes
pub mod MinorSizes
pub mod Sums
