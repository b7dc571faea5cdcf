-- The laws of the parts of an operation, each once. Assumes nothing.
pub mod Leaving
pub mod Reading
pub mod Steps
