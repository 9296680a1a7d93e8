-- What the proofs of several functions, and those of other crates, use.
pub mod Told
