-- The laws of loading, each once. Assumes nothing.
pub mod Ends
pub mod Measures
pub mod Judged
