-- What the proofs of several functions use, and what `decimal` means.
pub mod Decimals
pub mod Meaning
pub mod Printed
