-- The listing, from bytes to bytes.
pub mod Listing
pub mod Steps
pub mod Examples
