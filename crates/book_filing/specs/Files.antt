-- The stored book, version 1 (01, "Stored book, version 1"): the bytes of a book, and what writing and reading them answers, for all inputs.
-- Assumes nothing: these are definitions.
use Rattle.std.specs.Prelude.{ℕ, Bool, not, List, [], ◌∷◌, ◌++◌, leb, eqb, length, take, drop, Option, None, Some}
use Rattle.words.specs.Base.{◌and◌, when◌then◌else◌, same_words}
use Rattle.figures.specs.Limits.{most_book_words}
use Rattle.figures.specs.Numbers.{done, book_size, no_room, not_agreeing, no_mark, other_version, no_stored_book}
use Rattle.octets.specs.Octets.{bytes_of, words_of, word_at_byte}
use Rattle.order.specs.Answers.{Writing, refuse, write}
use Rattle.book.specs.Book.{Book, used, encode, in_form}
use Rattle.book.specs.Decoding.{book_in, by_book, sized, on_book}
use Rattle.book.specs.Taught.{agreeing}
use Rattle.book.specs.Opening.{Outcome, leave, write_book}

-- ---- bytes

-- "Bytes "OFB""
abbrev pub mark : List ℕ
mark = 79 ∷ 70 ∷ 66 ∷ []

-- How many bytes the mark has.
abbrev pub mark_bytes : ℕ
mark_bytes = 3

-- "version 1 as 16 bits"
abbrev pub version : ℕ
version = 1

-- The bytes before the used words: the mark's, and the version's two.
abbrev pub front_bytes : ℕ
front_bytes = 5

-- The file of a book: "Bytes "OFB", version 1 as 16 bits, then the used words".
unfoldable pub file_of : Book → List ℕ
file_of b = mark ++ bytes_of (version ∷ encode b)

-- ---- write

-- "Write file: 4, 5, 9, 11." "Only a book that agrees with itself is written."
unfoldable pub write_file_of : List ℕ → List ℕ → Writing
write_file_of ws out =
    on_book (λ n. refuse n out) ws (λ b.
    when not (agreeing b) then refuse not_agreeing out else
    write (file_of b) out)

-- ---- read

-- The file has the mark: 12 is "stored: under 5 bytes, or wrong mark".
unfoldable pub is_marked : List ℕ → Bool
is_marked file = leb front_bytes (length file) and same_words (take mark_bytes file) mark

-- The book whose used words the bytes are, high byte first, if they are "the used words of a book in form", which stands in "a lent slice of 7 to
-- 16,384 words" and so uses no more.
unfoldable pub stored_in : List ℕ → Option Book
stored_in rest =
    let b : Book = book_in (words_of rest) in
    when in_form b and leb (used b) most_book_words and same_words (bytes_of (encode b)) rest then Some b else None

-- 9 and 6, by the book; and then the whole slice is the book.
unfoldable pub read_book_of : List ℕ → Book → Outcome
read_book_of ws b =
    when not (agreeing b) then leave ws not_agreeing else
    when not (leb (used b) (length ws)) then leave ws no_room else
    write_book ws b

-- 14, 9 and 6, by the bytes past the version.
unfoldable pub read_rest_of : List ℕ → List ℕ → Outcome
read_rest_of rest ws = by_book (stored_in rest) (leave ws no_stored_book) (read_book_of ws)

-- "Read file: 4, 12, 13, 14, 9, 6."
unfoldable pub read_file_of : List ℕ → List ℕ → Outcome
read_file_of file ws =
    when not (sized ws) then leave ws book_size else
    when not (is_marked file) then leave ws no_mark else
    when not (eqb (word_at_byte file mark_bytes) version) then leave ws other_version else
    read_rest_of (drop front_bytes file) ws

-- ---- within reading

-- What words that are a book in form, with so many used, are answered by: 14 if these are not all the words, and else 9 or 0.
unfoldable pub stored_number : List ℕ → ℕ → ℕ
stored_number ws n =
    when not (eqb n (length ws)) then no_stored_book else
    when agreeing (book_in ws) then done else not_agreeing
