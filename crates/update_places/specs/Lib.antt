-- A field of the tuple under work is a place.
pub mod Place
