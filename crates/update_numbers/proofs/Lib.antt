-- The laws of an operation's numbers, each once. Assumes nothing.
pub mod Numbers
