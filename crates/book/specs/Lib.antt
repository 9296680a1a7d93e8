-- The definitions of the crate: the book, the book that words hold, the book of the orders taught, and what each call answers.
pub mod Book
pub mod Decoding
pub mod Sound
pub mod Holding
pub mod Passes
pub mod Taught
pub mod Opening
pub mod Checking
