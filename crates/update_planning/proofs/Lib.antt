-- The laws of plans, each once. Assumes nothing.
pub mod Answers
pub mod Plans
