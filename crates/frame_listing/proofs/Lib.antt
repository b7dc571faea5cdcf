-- The laws of the listing. Assumes nothing.
pub mod Within
pub mod Lines
pub mod Standing
