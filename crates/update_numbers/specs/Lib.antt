-- A field by its number.
pub mod FieldNumber
