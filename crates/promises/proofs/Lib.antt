-- The demands and what a reader begins with; then what was computed, and the laws that all of these cite.
pub mod Demand1
pub mod Demand2
pub mod Demand3
pub mod NoMore
pub mod Expected
pub mod Choosing
pub mod Cases
pub mod AtTheDesk
pub mod DeskLine
pub mod Impostors
pub mod Books
pub mod Wordings
pub mod Uniqueness
pub mod DeskInput
pub mod Tables
pub mod Laws
