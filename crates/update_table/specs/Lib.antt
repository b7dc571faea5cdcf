-- A table of places, edited.
pub mod Table
