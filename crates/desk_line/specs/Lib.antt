-- The definitions of the crate.
pub mod Replies
pub mod Meaning
