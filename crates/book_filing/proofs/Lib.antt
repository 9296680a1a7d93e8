-- The laws of the crate, which the proofs of functions in other crates, and other laws, cite.
pub mod Stored
pub mod Restoring
pub mod Reading
pub mod Writing
