-- What the contracts cite: a text put at a place of lent bytes, and the report's text by the lists that are shown.
pub mod Putting
pub mod Text
pub mod Columns
