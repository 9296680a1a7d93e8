-- `book_join::try_join`, by the form of both books. Assumes nothing.
use Rattle.std.proofs.Common.{sym}
use Rattle.std.proofs.lemmas.Result.{err_from_is_err_and}
use Rattle.book.proofs.Holding.{holds}
use Rattle.book_joining.proofs.Joins.{first-unjoined}
use Rattle.book_joining.proofs.Outcomes.{second-unheld}
use Rattle.book_join.proofs.try_join.Goals as goal

pub returns-in_err-places : goal.returns-in_err-places
returns-in_err-places c =
    let p = err_from_is_err_and c.from_residual.result c.from_residual.ensures.1 in
    rw (p.1, p.2) (sym (first-unjoined _ _ _ (sym c.in_err-places.ensures)))

pub returns-in_err-others : goal.returns-in_err-others
returns-in_err-others c =
    let p = err_from_is_err_and c.from_residual-in_err-others.result c.from_residual-in_err-others.ensures.1 in
    rw (p.1, p.2) (second-unheld _ _ _ (holds _ _ (sym c.in_ok-places.ensures)) _ (sym c.in_err-others.ensures))

pub join_books-requires-clause-holds : goal.join_books-requires-clause-holds
join_books-requires-clause-holds c = holds _ _ (sym c.in_ok-places.ensures)

pub join_books-requires-clause-holds_2 : goal.join_books-requires-clause-holds_2
join_books-requires-clause-holds_2 c = holds _ _ (sym c.in_ok-others.ensures)
