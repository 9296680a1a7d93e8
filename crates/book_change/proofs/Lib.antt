-- What the proofs of several functions, and those of other crates, use.
pub mod Sections
pub mod Standing
pub mod Stages
pub mod Weights
pub mod Changed
pub mod Sums
pub mod Room
