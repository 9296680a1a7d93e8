-- What the proofs of several functions, and those of other crates, use.
pub mod Tests
pub mod Ordered
pub mod Signs
pub mod Differences
pub mod Fronts
pub mod Shifts
