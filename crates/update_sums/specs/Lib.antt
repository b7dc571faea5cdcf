-- The range of integers.
pub mod Range
