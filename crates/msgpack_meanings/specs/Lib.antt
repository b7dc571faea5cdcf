-- What a value means; a value read alone.
pub mod Meaning
pub mod Examples
