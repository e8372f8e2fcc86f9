-- What the functions here speak of.
pub mod Aligning
