-- Inner: no promise rests on these definitions.
-- When a section of a book is that of its T, and the scratch that finding out takes. Assumes nothing: these are definitions.
use Rattle.std.specs.Prelude.{ℕ, ◌+◌, ◌*◌, ◌-◌, ◌/◌, ◌≤◌, Bool, List, length}
use Rattle.figures.specs.Limits.{head_words, most_book_words}
use Rattle.book.specs.Book.{Book, section_of}
use Rattle.book.specs.Decoding.{book_in}
use Rattle.book.specs.Taught.{book_of, teachings_in, same_section}
use Rattle.book.specs.declared.Section.{Section}

-- No section has more entries: the shortest entry, that of a single node, takes four words.
abbrev pub most_entries : ℕ
most_entries = (most_book_words - head_words) / 4

-- The entries that the scratch for a small book has room for: places, counts and marks of so many are three kilobytes to clear, of the most
-- twenty-four.
abbrev pub small_entries : ℕ
small_entries = 512

-- No section of a book that uses at most so many words has more entries: the shortest takes four words.
abbrev pub small_book : ℕ
small_book = head_words + 4 * small_entries

-- No section of the book in these words has more than n entries: a scratch of n words has room for each.
abbrev pub Roomy : List ℕ → ℕ → Type 0
Roomy ws n = (s : Section) → length (section_of s (book_in ws)) ≤ n

-- A section of a book is that of its T, trees and counts.
abbrev pub agreeing_in : Section → Book → Bool
agreeing_in s b = same_section (section_of s b) (section_of s (book_of b.k (teachings_in b.T)))
