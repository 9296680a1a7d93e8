-- The laws of the crate, which the proofs of functions in other crates, and other laws, cite.
pub mod Fixes
pub mod Descents
pub mod Seekings
pub mod Tops
pub mod Rounds
pub mod Judgements
pub mod Verdicts
pub mod Answers
pub mod Figures
