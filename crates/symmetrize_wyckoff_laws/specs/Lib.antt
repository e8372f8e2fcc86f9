-- The letters of orbits: what an order of the permutations cannot change.
pub mod Unique
