-- The figures and numbers of 01, and k.
pub mod Limits
pub mod Nodes
pub mod Numbers
pub mod Answers
pub mod Refusals
