-- Laws of the whole call.
pub mod General
pub mod Together
pub mod Facts
pub mod Ladder
pub mod Parts
pub mod Past
pub mod Choices
pub mod Done
pub mod Answered
pub mod Assembled
pub mod Counted
