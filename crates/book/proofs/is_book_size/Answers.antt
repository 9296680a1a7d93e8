-- `book::is_book_size`, by its two tests. Assumes nothing.
use Rattle.std.proofs.Common.{sym, ◌∙◌}
use borrow.Author.Tests.{lt-leb}
use Rattle.figures.specs.Limits.{head_words}
use Rattle.book.proofs.Heads.{size-short, size-by_most}
use Rattle.book.proofs.is_book_size.Goals as goal

pub returns-then-words-ge-HEAD_WORDS : goal.returns-then-words-ge-HEAD_WORDS
returns-then-words-ge-HEAD_WORDS c = sym (size-by_most _ c.if-words-ge-HEAD_WORDS.true)

pub returns-else-words-ge-HEAD_WORDS : goal.returns-else-words-ge-HEAD_WORDS
returns-else-words-ge-HEAD_WORDS c = lt-leb head_words _ c.if-words-ge-HEAD_WORDS.false ∙ sym (size-short _ c.if-words-ge-HEAD_WORDS.false)
