-- The report on the first frame that is refused, from bytes to bytes.
pub mod Fault
pub mod Examples
