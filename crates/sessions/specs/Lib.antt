-- Frames fed in pieces: what a feed answers and leaves in the carry buffer; what is claimed of all ways of cutting.
pub mod Session
pub mod Cutting
pub mod Examples
