-- Laws of places. Assumes nothing.
pub mod First
pub mod Parts
pub mod Lists
pub mod Given
