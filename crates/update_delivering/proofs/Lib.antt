-- The laws of what is written. Assumes nothing.
pub mod Runs
pub mod Sides
pub mod Undos
pub mod Delivered
pub mod Tuples
pub mod Holds
pub mod Tries
