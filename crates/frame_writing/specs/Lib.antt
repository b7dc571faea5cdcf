-- What writing a frame answers.
pub mod Answer
