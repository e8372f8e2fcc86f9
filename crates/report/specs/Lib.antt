-- What the report program prints, from the promise of the whole call on bytes, and how much it reads.
pub mod Printed
pub mod Input
