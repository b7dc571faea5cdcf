-- The laws of sessions. Assumes nothing.
pub mod Settled
pub mod Shown
pub mod Uncut
pub mod Runs
