-- What joining two books answers, and what the first is then, for all inputs (02, "Join the workshop's book to the desk's"). Assumes nothing: these
-- are definitions.
use Rattle.std.specs.Prelude.{ℕ, ◌+◌, ◌≡◌, not, List, ◌++◌, leb, eqb, length}
use Rattle.words.specs.Base.{when◌then◌else◌}
use Rattle.figures.specs.Numbers.{no_room, too_many, not_agreeing, other_k}
use Rattle.section.specs.Entries.{count_of}
use Rattle.book.specs.Book.{Book, section_of, used}
use Rattle.book.specs.Decoding.{on_book}
use Rattle.book.specs.Sound.{SoundBook}
use Rattle.book.specs.Taught.{book_of, teachings_in, agreeing}
use Rattle.book.specs.Opening.{Outcome, leave, write_book}
use Rattle.book.specs.declared.Section.{Section}
use Rattle.book_change.specs.Counts.{within_counts}

-- "counts added": a sound book of the first's k, in each section of which T, R, L and P every key counts what it counts in both books together.
pub record CountsAdded (b c sum : Book) : Type 0 where
  pub sound : SoundBook sum
  pub depth : sum.k ≡ b.k
  pub counts : (s : Section) (key : List ℕ) → count_of key (section_of s sum) ≡ count_of key (section_of s b) + count_of key (section_of s c)

-- "the book taught the live orders of both, counts added"
unfoldable pub joined : Book → Book → Book
joined b c = book_of b.k (teachings_in b.T ++ teachings_in c.T)

-- What joining does, once both books are in form: "15 where k differs, 9 on the first, 9 on the second, 7, 6", and then the whole slice is the joined
-- book.
unfoldable pub join_books : List ℕ → Book → Book → Outcome
join_books ws b c =
    let sum : Book = joined b c in
    when not (eqb b.k c.k) then leave ws other_k else
    when not (agreeing b) then leave ws not_agreeing else
    when not (agreeing c) then leave ws not_agreeing else
    when not (within_counts sum) then leave ws too_many else
    when not (leb (used sum) (length ws)) then leave ws no_room else
    write_book ws sum

-- "Refusals: 4 and 5 on the first book, 4 and 5 on the second, 15 where k differs, 9 on the first, 9 on the second, 7, 6."
unfoldable pub join_of : List ℕ → List ℕ → Outcome
join_of ws vs = on_book (leave ws) ws (λ b. on_book (leave ws) vs (join_books ws b))
