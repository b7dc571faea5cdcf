-- The laws of reading, each once. Assumes nothing.
pub mod Laws
pub mod Tokens
pub mod Local
pub mod Pieces
pub mod Spoiled
