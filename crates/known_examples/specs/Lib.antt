-- The table of known examples.
pub mod Table
