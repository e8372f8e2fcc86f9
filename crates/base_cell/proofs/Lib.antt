-- Laws of the loops over the listed sites, the table of first sites and that of counts; what they come to; how the
-- promise is kept.
pub mod Firsts
pub mod Tables
pub mod Groups
pub mod Accepted
pub mod Classes
pub mod ClassLabels
pub mod Rearranged
pub mod Labelling
