-- What the proofs of several functions use.
mod Forms
