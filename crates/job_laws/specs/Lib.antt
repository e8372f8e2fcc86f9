-- The bytes of a job: no two jobs share them.
pub mod Reader
pub mod Decode
pub mod Worked
