-- The laws of the fields. Assumes nothing.
pub mod Decimal
pub mod Names
