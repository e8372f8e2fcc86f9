-- Small whole jobs, matches and reports, computed over the definitions; what the Rust answers to them.
pub mod Jobs
pub mod Matches
pub mod Reports
