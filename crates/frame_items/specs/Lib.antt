-- The known keys of a record, as the code goes through them.
pub mod Content
