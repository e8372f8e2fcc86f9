-- Orbits of listed sites: what joined means, how it is decided, and what the labels say.
pub mod Joined
pub mod Maps
pub mod Classes
pub mod Trees
pub mod Labels
pub mod Grouping
pub mod Given
pub mod Tested
pub mod Rearranged
pub mod Labelling
