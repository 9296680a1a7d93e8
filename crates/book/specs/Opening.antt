-- What `open` answers, for all inputs. Assumes nothing: these are definitions.
use Rattle.std.specs.Prelude.{ℕ, not, List, [], length}
use Rattle.words.specs.Base.{when◌then◌else◌, within}
use Rattle.figures.specs.Limits.{least_k, greatest_k}
use Rattle.figures.specs.Numbers.{done, k_outside, book_size}
use Rattle.figures.specs.Answers.{answered}
use Rattle.figures.specs.declared.Answer.{Answer}
use Rattle.book.specs.Book.{Book, lay}
use Rattle.book.specs.Decoding.{sized}
use Rattle.book.specs.Taught.{book_of}

-- What a call that may write a book answers, and the slice's words then.
pub record Outcome : Type 0 where
  pub answer : Answer
  pub words : List ℕ

-- The answer and the words, as a call has them.
abbrev pub outcome : Answer → List ℕ → Outcome
outcome a ws = record { answer = a; words = ws }

-- A refusal by a number: it "leaves all lent words and bytes as they came".
abbrev pub leave : List ℕ → ℕ → Outcome
leave ws n = outcome (answered n) ws

-- "Success writes the book": the whole slice.
abbrev pub write_book : List ℕ → Book → Outcome
write_book ws b = outcome (answered done) (lay (length ws) b)

-- "Open: 4, 3." An opened book is the book of no orders.
unfoldable pub open_of : List ℕ → ℕ → Outcome
open_of ws k =
    when not (sized ws) then leave ws book_size else
    when not (within least_k greatest_k k) then leave ws k_outside else
    write_book ws (book_of k [])
