-- The laws of operations and of lists of them, each once. Assumes nothing.
pub mod Answers
pub mod Actions
pub mod Opening
pub mod Listing
