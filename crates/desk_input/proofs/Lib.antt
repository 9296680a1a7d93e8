-- What the proofs of several functions use, and the laws that crates above cite.
pub mod Splitting
pub mod Found
pub mod LetterLines
pub mod Meaning
pub mod Reasons
pub mod Handing
