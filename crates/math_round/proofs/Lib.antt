pub mod OneCase
pub mod OffWhole
pub mod ByPattern
