-- Laws of a text put at a place, of decimal digits, of the report's text and of its room.
pub mod Putting
pub mod Digits
pub mod Text
pub mod Room
