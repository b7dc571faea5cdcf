-- Updating a tuple, undoing it, and sequences of both.
pub mod Limits
pub mod Tuple
pub mod Decoding
pub mod Operation
pub mod Edit
pub mod Call
pub mod Sequence
pub mod Press
pub mod Examples
