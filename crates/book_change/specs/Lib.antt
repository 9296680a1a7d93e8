-- The definitions of the crate.
pub mod Counts
pub mod Changing
