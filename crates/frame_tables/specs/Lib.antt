-- A map of a frame as a table of its keys.
pub mod Tables
