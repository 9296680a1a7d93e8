-- The definitions of the crate: what is printed for which input, what one step does of it, and how many lines that is.
pub mod Desk
pub mod Steps
pub mod Lines
