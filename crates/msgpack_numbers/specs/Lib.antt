-- Numbers of several bytes.
pub mod Number
