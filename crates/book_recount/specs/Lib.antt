-- The definitions of the crate.
pub mod Tallies
