-- The definitions of the crate: what is answered, with what the book expected, the rows of the rules' table that say so by document 000, and what the
-- inner functions of `book_seek` and `book_judge` find.
pub mod Judging
pub mod Expecting
pub mod Verdicts
pub mod Seeking
