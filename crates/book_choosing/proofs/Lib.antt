-- The laws of the crate, which the proofs of functions in other crates, and other laws, cite.
pub mod Lists
pub mod Fitting
pub mod Images
pub mod Cuts
pub mod Turns
pub mod Choices
