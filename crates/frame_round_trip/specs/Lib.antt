-- The round trip of frames.
pub mod RoundTrip
