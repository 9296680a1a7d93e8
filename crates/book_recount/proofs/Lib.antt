-- What the proofs of several functions, and those of other crates, use.
pub mod Turns
pub mod OrdersLeft
