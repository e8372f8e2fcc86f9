-- Laws that the proof of the call cites.
pub mod Started
