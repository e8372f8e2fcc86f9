pub mod Points
pub mod Accepted
pub mod Laying
pub mod Listable
pub mod Listing
