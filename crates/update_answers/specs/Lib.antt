-- What a caller sees of a call.
pub mod Seen
