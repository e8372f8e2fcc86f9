pub mod Meaning
pub mod Origin
