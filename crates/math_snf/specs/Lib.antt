pub mod Step
pub mod Key
