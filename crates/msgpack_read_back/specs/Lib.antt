-- What is claimed of the forms that the writers write.
pub mod Claims
