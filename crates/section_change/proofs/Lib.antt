-- What the proofs of several functions, and those of other crates, use.
pub mod Relaying
pub mod Sweeping
pub mod Adding
pub mod Lowering
pub mod Weighing
pub mod Once
pub mod Turns
pub mod Entering
