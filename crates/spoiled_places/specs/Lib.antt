-- Where a value broke: what a place is, and where one is given.
pub mod First
pub mod Given
