-- Laws of the walk's code: the search among candidates, the table of letters, the guard's tests, and how the step keeps
-- its promise. Then those of the letter call: the design's sites, and its verdict from its parts.
pub mod Tables
pub mod Given
pub mod Assigned
pub mod Designs
pub mod Promise
