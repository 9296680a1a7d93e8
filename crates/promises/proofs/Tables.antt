-- Rows that are computed over the definitions, beside the twelve cases. Assumes nothing.
pub mod Computed
pub mod Rows
pub mod ImageRows
pub mod FileRows
pub mod Numerals
pub mod InOrder
pub mod DeskRows
