-- What the writer asks of a record.
pub mod Parts
pub mod Judged
