-- The laws of reading back what was written, each once. Assumes nothing.
pub mod Digits
pub mod Back
pub mod Shortest
