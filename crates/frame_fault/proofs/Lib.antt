-- The laws of the report. Assumes nothing.
pub mod Lines
pub mod Lengths
pub mod Search
