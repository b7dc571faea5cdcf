-- What a whole value tells of its bytes; which bits are a NaN's. Assumes nothing.
pub mod Whole
pub mod Nans
