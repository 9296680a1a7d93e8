-- The definitions of the crate, from trees to what each function answers.
pub mod Trees
pub mod Reading
pub mod Causes
pub mod Parts
pub mod Standing
pub mod Answers
pub mod Fits
pub mod Levels
pub mod Spans
pub mod Paper
