-- What the proofs of other crates use.
pub mod Parts
pub mod Owning
