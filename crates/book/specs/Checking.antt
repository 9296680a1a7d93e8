-- What `book_check::check` answers, for all inputs (01, "The book" and "Numbers the desk hears"). Assumes nothing: these are definitions.
use Rattle.std.specs.Prelude.{ℕ, List}
use Rattle.words.specs.Base.{when◌then◌else◌}
use Rattle.figures.specs.Numbers.{done, not_agreeing}
use Rattle.figures.specs.Answers.{answered}
use Rattle.figures.specs.declared.Answer.{Answer}
use Rattle.book.specs.Decoding.{on_book}
use Rattle.book.specs.Taught.{agreeing}

-- "Check: 4, 5, 9.": 9 where the "book does not agree with itself".
unfoldable pub agree_of : List ℕ → Answer
agree_of ws = on_book answered ws (λ b. answered (when agreeing b then done else not_agreeing))
