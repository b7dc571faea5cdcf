-- The laws of tables, each once. Assumes nothing.
pub mod Entries
pub mod Tables
pub mod Found
