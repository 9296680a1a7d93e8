-- The laws of the crate: those that readers meet are in Conditions, Whys, Sequences, Agreeing and Undoing; the proofs of teaching and withdrawing cite Outcomes.
pub mod Adds
pub mod Formed
pub mod Outcomes
pub mod Calling
pub mod Counted
pub mod Reasons
pub mod Conditions
pub mod Whys
pub mod Agreeing
pub mod Sequences
pub mod Undoing
