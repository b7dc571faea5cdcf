-- The laws of sums and differences, each once. Assumes nothing.
pub mod Signs
