-- Plans performed on a table of places, and a list run on a tuple.
pub mod Steps
pub mod Held
pub mod Course
pub mod Carrying
