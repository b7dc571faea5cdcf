-- The laws of feeding. Assumes nothing.
pub mod Steps
