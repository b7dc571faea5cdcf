-- The laws of a table of places. Assumes nothing.
pub mod Turns
pub mod Edits
pub mod Windows
