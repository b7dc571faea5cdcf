-- The laws of the round trip: numbers, maps, items, frames. Assumes nothing.
pub mod Numbers
pub mod Maps
pub mod Items
pub mod Trip
