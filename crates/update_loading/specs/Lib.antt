-- A tuple judged, and its fields as places.
pub mod Loading
