-- The square root: its digits, the values that bit patterns stand for, that `sqrt` gives IEEE 754's root, and that it
-- grows with its argument.
pub mod Root
pub mod Shift
pub mod Value
pub mod Half
pub mod Nearest
pub mod Unique
pub mod Cases
pub mod Order
pub mod Monotone
