-- Laws of keys that may be absent. Assumes nothing.
pub mod Parts
pub mod Absence
pub mod Fewer
pub mod Narrowed
