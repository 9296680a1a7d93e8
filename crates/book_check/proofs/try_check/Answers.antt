-- `book_check::try_check`, by the form of the book. Assumes nothing.
use Rattle.std.proofs.Common.{sym}
use Rattle.std.proofs.lemmas.Result.{err_from_is_err_and}
use Rattle.book.proofs.Holding.{holds}
use Rattle.book.proofs.Checking.{check_unheld}
use Rattle.book_check.proofs.try_check.Goals as goal

pub returns-in_err-places : goal.returns-in_err-places
returns-in_err-places c =
    let p = err_from_is_err_and c.from_residual.result c.from_residual.ensures.1 in
    rw (p.1, p.2) (sym (check_unheld _ _ (sym c.in_err-places.ensures)))

pub check_sections-requires : goal.check_sections-requires
check_sections-requires c = holds _ _ (sym c.in_ok-places.ensures)
