-- What the proofs of several functions use, and the laws: that runs print what the desk prints, how many lines that is, and what a step answers.
pub mod Runs
pub mod Lines
pub mod Steps
