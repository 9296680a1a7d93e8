-- What `book_check::check` answers, by what the words are. Assumes nothing.
use Prim.Native.Nat.{ℕ}
use mathlib.Core.Path.{◌≡◌, refl}
use mathlib.Core.List.{List}
use Rattle.words.specs.Base.{when◌then◌else◌}
use Rattle.figures.specs.Numbers.{done, not_agreeing}
use Rattle.figures.specs.Answers.{answered}
use Rattle.figures.specs.declared.Answer.{Answer}
use Rattle.book.specs.Book.{Book}
use Rattle.book.specs.Decoding.{book_form_of, Refused}
use Rattle.book.specs.Sound.{IsBook}
use Rattle.book.specs.Taught.{agreeing}
use Rattle.book.proofs.Holding.{refused-book}
use Rattle.book.proofs.Sound.{on-any, by_book_lem}
use Rattle.book.specs.Checking.{agree_of}

-- A slice that is no book in form is answered by 4 or 5.
pub check_unheld : (ws : List ℕ) (n : ℕ) → book_form_of ws ≡ Refused n → agree_of ws ≡ answered n
unfolding agree_of
check_unheld ws n e = refused-book ws n e answered (λ b. answered (when agreeing b then done else not_agreeing))

-- The words of a book are answered by whether it agrees with itself.
pub check_held : (ws : List ℕ) (b : Book) → IsBook ws b → agree_of ws ≡ answered (when agreeing b then done else not_agreeing)
unfolding agree_of
check_held ws b i = on-any ws b i answered (λ c. answered (when agreeing c then done else not_agreeing))

-- Checking a book: line 0.
pub check_line : (ws : List ℕ) → (agree_of ws).line ≡ 0
unfolding agree_of
check_line ws = by_book_lem (λ (a : Answer). a.line ≡ 0) ws answered _ (λ n. refl) (λ b i. refl)
