-- Laws of the loops: stores into a lent list, the tables of the images met, the inverse placed entry by entry, the parts
-- of a list tested in turn.
pub mod Accepted
pub mod Marks
pub mod MetTable
pub mod Parts
pub mod Placing
