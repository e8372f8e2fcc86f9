pub mod Lattice
pub mod Given
