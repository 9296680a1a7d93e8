-- `book_teach::try_teach`, by the form of the book. Assumes nothing.
use Rattle.std.proofs.Common.{sym}
use Rattle.order_check.proofs.Told.{err-is}
use Rattle.book.proofs.Holding.{holds}
use Rattle.book_teaching.proofs.Outcomes.{teach-unheld}
use Rattle.book_teach.proofs.try_teach.Goals as goal

pub returns-in_err-places : goal.returns-in_err-places
returns-in_err-places c = rw (err-is _ _ c.from_residual.ensures.1) (teach-unheld _ _ _ (sym c.in_err-places.ensures))

pub teach_order-requires : goal.teach_order-requires
teach_order-requires c = holds _ _ (sym c.in_ok-places.ensures)
