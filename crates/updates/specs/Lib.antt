-- What the parts of the calls tell each other.
pub mod Telling
