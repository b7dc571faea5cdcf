-- The laws of computed numbers, each once. Assumes nothing.
pub mod Numbers
