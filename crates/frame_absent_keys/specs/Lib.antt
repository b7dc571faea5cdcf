-- Keys that a frame may leave out: what an absent one counts as, and what was refused before.
pub mod Apart
pub mod Absent
pub mod Before
