-- Laws of the match's code: the search by places, the tables of offsets; the promise of the call.
pub mod Near
pub mod Tables
pub mod Stores
pub mod Columns
pub mod Promise
