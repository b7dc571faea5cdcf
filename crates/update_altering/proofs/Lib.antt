-- The laws of altered fields, each once. Assumes nothing.
pub mod Edits
pub mod Numbers
pub mod Strings
