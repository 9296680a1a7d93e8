-- How a run of calls on one book starts, and the orders that count as taught first (01, "Stored book, version 1"; demand 3). Assumes nothing: these
-- are definitions.
use Rattle.std.specs.Prelude.{ℕ, List, [], drop}
use Rattle.book.specs.Decoding.{by_book}
use Rattle.book.specs.Opening.{Outcome, open_of}
use Rattle.book_filing.specs.Files.{front_bytes, stored_in, read_file_of}
use Rattle.promises.specs.Remaining.{orders_in}

-- A run starts with an empty book of some k, or "by reading a file".
pub data Start : Type 0 where
  opening : ℕ → Start
  reading : List ℕ → Start

-- What starting in a slice answers, and the words then.
abbrev pub started_by : Start → List ℕ → Outcome
started_by (opening k) ws = open_of ws k
started_by (reading file) ws = read_file_of file ws

-- "A run that starts by reading a file counts that file's orders as taught first." Asked of a start that is done; none of bytes that hold no book.
abbrev pub taught_first : Start → List (List ℕ)
taught_first (opening k) = []
taught_first (reading file) = by_book (stored_in (drop front_bytes file)) [] (λ b. orders_in b.T)

-- The k of the book that a run starts with. Asked of a start that is done; 0 of bytes that hold no book.
abbrev pub start_k : Start → ℕ
start_k (opening k) = k
start_k (reading file) = by_book (stored_in (drop front_bytes file)) 0 (λ b. b.k)
