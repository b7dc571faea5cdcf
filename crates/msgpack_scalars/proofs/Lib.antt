-- Laws of numbers and headers. Assumes nothing.
pub mod Laws
pub mod Short
pub mod Own
