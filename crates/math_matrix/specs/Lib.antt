pub mod Ring
pub mod Solve
pub mod Exprs
pub mod Laws
pub mod Bounds
pub mod Rows
pub mod Entries
