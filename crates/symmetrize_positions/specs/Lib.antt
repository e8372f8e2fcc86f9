-- What the calls share.
pub mod Targets
pub mod Given
