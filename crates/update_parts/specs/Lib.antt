-- What the code reads an operation from, as what the definitions get.
pub mod Part
