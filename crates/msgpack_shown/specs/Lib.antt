-- A value read alone as C sees it.
pub mod Shown
pub mod Examples
