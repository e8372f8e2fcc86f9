-- What the calls say in numbers that C can take.
pub mod Told
