-- Laws of reading a frame, one for each way that the code takes. Assumes nothing.
pub mod Places
pub mod Contents
