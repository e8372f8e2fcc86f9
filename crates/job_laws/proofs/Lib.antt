pub mod Reader
pub mod Decode
pub mod Worked
