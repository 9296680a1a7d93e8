-- The definitions that the demands are said with.
pub mod Remaining
pub mod Starts
pub mod Heard
pub mod Agreement
pub mod Whys
pub mod AtTheDesk
pub mod DeskInput
pub mod Forms
pub mod Books
pub mod NoMore
pub mod Expected
pub mod Choosing
