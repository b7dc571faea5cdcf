-- The fields of the lines of a listing: text and numbers, kinds by name, a sync.
pub mod Text
pub mod Names
pub mod Sync
pub mod Steps
