-- Where the body is: a step of the code.
pub mod Steps
