-- The laws of places. Assumes nothing.
pub mod Places
pub mod Runs
pub mod Kept
pub mod Chains
