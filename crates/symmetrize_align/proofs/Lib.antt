-- Laws of the search, the loop over the targets, and the call.
pub mod Search
pub mod Fronts
pub mod Accepted
