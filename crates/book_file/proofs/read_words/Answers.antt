-- `book_file::read_words`, by the form of the words, the number of their book and the room in the slice. Assumes nothing.
use Rattle.std.proofs.Common.{sym, ap, List, ℕ, ◌∙◌}
use Rattle.std.proofs.lemmas.Result.{err_from_is_err_and}
use Rattle.figures.specs.Numbers.{done}
use Rattle.figures.specs.Answers.{answered}
use Rattle.figures.proofs.SameRefusal.{not_done}
use Rattle.book.specs.Opening.{outcome}
use Rattle.book.proofs.Holding.{holds}
use Rattle.book_filing.proofs.Restoring.{restore_refused, restore_numbered, restore_short, restore_written}
use Rattle.book_file.proofs.read_words.Goals as goal

pub returns-in_default : goal.returns-in_default
returns-in_default c = sym (restore_refused _ _ _ (sym c.in_default.ensures))

pub check_stored-requires : goal.check_stored-requires
check_stored-requires c = holds _ _ (sym c.in-Ok.ensures)

pub returns-in_err-check_stored : goal.returns-in_err-check_stored
returns-in_err-check_stored c =
    let p = err_from_is_err_and c.from_residual.result c.from_residual.ensures.1 in
    let n = c.in_err-check_stored.ensures in
    rw (p.1, p.2) (ap (λ (m : ℕ). outcome (answered m) c.args.book.now) n ∙ sym (restore_numbered _ _ _ (sym c.in-Ok.ensures) (λ d. not_done _ (n ∙ d))))

pub returns-then-book-words : goal.returns-then-book-words
returns-then-book-words c = sym (restore_short _ _ _ (sym c.in-Ok.ensures) (sym c.in_ok-check_stored.ensures) c.if-book-words.true)

pub returns : goal.returns
returns c =
    ap (λ (l : List ℕ). outcome (answered done) l) c.put_book.ensures
    ∙ sym (restore_written _ _ _ (sym c.in-Ok.ensures) (sym c.in_ok-check_stored.ensures) c.if-book-words.false)
