-- The laws of the parts of a report. Assumes nothing.
pub mod Laying
pub mod Column
pub mod Lengths
