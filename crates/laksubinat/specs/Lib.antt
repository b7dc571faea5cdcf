-- What C sees of the answers.
pub mod Shown
