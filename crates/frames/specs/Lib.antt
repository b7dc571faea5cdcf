-- Frames: what their keys hold, how they are read, in 01's order of refusals, and how they are written.
pub mod Limits
pub mod Held
pub mod Keys
pub mod Codes
pub mod Cascade
pub mod Maps
pub mod Reading
pub mod Writing
pub mod Examples
