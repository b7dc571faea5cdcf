-- The laws of the known keys.
pub mod Laws
