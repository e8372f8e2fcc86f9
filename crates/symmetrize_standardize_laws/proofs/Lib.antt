pub mod Answers
pub mod Whole
pub mod Cells
