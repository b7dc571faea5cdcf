-- What a code requires and a known key must hold, as the code has them.
pub mod Needs
