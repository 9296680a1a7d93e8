-- The definitions of the crate: rule lists, what is chosen by one, the rows that say so by document 000, and what the functions of `book_rules` and
-- `book_choose` find on the way.
pub mod Rules
pub mod Choosing
pub mod Choices
pub mod Walking
