-- What the proofs of several functions, and those of other crates, use.
pub mod Runs
pub mod Passing
pub mod Meaning
pub mod Depths
pub mod Heads
pub mod Holding
pub mod Openings
pub mod Sound
pub mod Sections
pub mod Around
pub mod Taught
pub mod Teachings
pub mod Agreeing
pub mod Checking
