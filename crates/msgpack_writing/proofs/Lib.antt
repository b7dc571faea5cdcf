-- The laws of writing, each once. Assumes nothing.
pub mod Turns
pub mod Turned
pub mod Put
pub mod Lengths
