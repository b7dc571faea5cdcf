-- A field altered, and spliced strings.
pub mod Altering
pub mod Splicing
