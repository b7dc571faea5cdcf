-- The laws of frames. Assumes nothing.
pub mod Front
pub mod Pairs
pub mod Cascade
pub mod Sizes
pub mod Judged
pub mod Placed
