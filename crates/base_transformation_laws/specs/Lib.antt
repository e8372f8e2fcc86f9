-- The points of C in a box of residues, the copies of sites that they list, and rotations in one basis after another.
pub mod Residues
pub mod Box
pub mod Smith
pub mod Listed
pub mod Rotations
