-- Order form text, read and written.
pub mod Text
pub mod Reading
pub mod Faults
pub mod Writing
pub mod Turns
