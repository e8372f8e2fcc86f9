-- Coordinates: one reading at the most, its meaning, its origin.
pub mod Reader
pub mod Sound
pub mod Reading
pub mod Meaning
pub mod Origin
