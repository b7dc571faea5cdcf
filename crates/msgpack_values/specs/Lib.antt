-- One MessagePack value at the front of bytes, and the values of a container as pieces.
pub mod Value
pub mod Tokens
pub mod Pieces
pub mod Spoiled
pub mod Examples
