-- Coordinates: the scan that the code makes; prepared candidates.
pub mod Scan
pub mod Scanned
pub mod Terms
pub mod Spaces
