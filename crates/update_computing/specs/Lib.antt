-- Computed numbers.
pub mod Computing
