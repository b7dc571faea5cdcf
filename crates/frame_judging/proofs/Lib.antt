-- The laws of a record's items.
pub mod Runs
pub mod Lengths
pub mod Passes
