-- The laws of updates, each once. Assumes nothing.
pub mod Cases
pub mod Whole
pub mod Legal
pub mod Tuple
pub mod Decode
pub mod Sound
pub mod Taking
pub mod Calls
pub mod Sequences
pub mod Presses
