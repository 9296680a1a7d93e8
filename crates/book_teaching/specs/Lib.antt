-- The definitions of the crate.
pub mod Calls
pub mod Conditions
pub mod Whys
