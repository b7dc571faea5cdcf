-- Laws of the rules, one for each way that the code takes. Assumes nothing.
pub mod Laws
