-- The laws of the three calls, each once. Assumes nothing.
pub mod Calls
