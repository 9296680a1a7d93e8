-- What the proofs of other crates use.
pub mod SameRefusal
