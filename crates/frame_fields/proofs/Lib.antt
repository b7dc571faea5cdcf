-- Laws of the fields, one for each way that the code takes. Assumes nothing.
pub mod Laws
