pub mod Points
pub mod Covered
pub mod Listed
