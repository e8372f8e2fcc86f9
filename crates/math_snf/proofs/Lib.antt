pub mod Ints
pub mod Grades
pub mod Stages
pub mod Pivots
pub mod Lines
