-- Unsigned numbers, integers, and headers with their counts.
pub mod Start
pub mod Integer
pub mod Header
pub mod Examples
