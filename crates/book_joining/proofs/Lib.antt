-- The laws of the crate: those that readers meet are in Joins; the proofs of joining cite Outcomes.
pub mod Teachings
pub mod Joined
pub mod Joins
pub mod Outcomes
