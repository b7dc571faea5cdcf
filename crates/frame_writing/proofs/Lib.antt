-- The laws of writing a frame.
pub mod Turns
pub mod Calls
