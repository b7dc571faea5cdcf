-- The laws of a run, each once. Assumes nothing.
pub mod Entries
pub mod Among
pub mod Sums
pub mod Holding
pub mod Undoing
pub mod Performing
pub mod Stepping
pub mod Turns
pub mod Turning
pub mod Begin
