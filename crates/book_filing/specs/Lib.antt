-- The definitions of the crate.
pub mod Files
