-- `book_file::check_stored`, by whether all the words are used. Assumes nothing.
use Rattle.std.proofs.Common.{ℕ, List, Bool, not, length, ◌≡◌, sym, ap, ◌∙◌}
use borrow.Author.Tests.{eq-eqb, ne_eqb}
use Rattle.words.specs.Base.{when◌then◌else◌}
use Rattle.figures.specs.Numbers.{done, not_agreeing, no_stored_book}
use Rattle.figures.specs.declared.Answer.{Answer}
use Rattle.book.specs.Decoding.{book_in}
use Rattle.book.specs.Holding.{Holds}
use Rattle.book.specs.Taught.{agreeing}
use Rattle.book.specs.declared.Places.{Places}
use Rattle.book.proofs.Sound.{held_book}
use Rattle.book.specs.Checking.{agree_of}
use Rattle.book.proofs.Checking.{check_held}
use Rattle.book_filing.specs.Files.{stored_number}
use Rattle.book_file.proofs.check_stored.Goals as goal

-- Words that are not all used are answered by 14.
more-words : (ws : List ℕ) (n : ℕ) → (n ≡ length ws → ⊥) → no_stored_book ≡ stored_number ws n
unfolding stored_number when◌then◌else◌
more-words ws n x = rw (ne_eqb n (length ws) x)

-- Words that are all used are answered as a check of their book is.
just-used : (ws : List ℕ) (p : Places) → Holds ws p → p.used ≡ length ws → (agree_of ws).number ≡ stored_number ws p.used
unfolding stored_number when◌then◌else◌
just-used ws p h e =
    ap (λ (a : Answer). a.number) (check_held ws (book_in ws) (held_book ws p h))
    ∙ ap (λ (t : Bool). when not t then no_stored_book else when agreeing (book_in ws) then done else not_agreeing) (sym (eq-eqb p.used (length ws) e))

pub returns-then-places-words : goal.returns-then-places-words
returns-then-places-words c = more-words _ _ c.if-places-words.true

pub returns : goal.returns
returns c = ap (λ (a : Answer). a.number) c.check_sections.ensures ∙ just-used _ _ c.requires c.if-places-words.false
