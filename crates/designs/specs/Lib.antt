-- The starred designs of document 01, its offsets and its limits, and the figures of request M-113 of document 02,
-- computed over the definitions; how a whole job is.
pub mod Computed
pub mod Evaluate
pub mod Starred
pub mod Offsets
pub mod Limits
pub mod Passes
