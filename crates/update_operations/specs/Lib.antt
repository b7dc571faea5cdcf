-- What the code finds in a list, as the operations of the definitions; a list judged as a whole.
pub mod Found
pub mod Listing
