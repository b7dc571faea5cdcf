-- Big-endian numbers.
pub mod Big
