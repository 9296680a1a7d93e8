-- `book_teach::try_withdraw`, by the form of the book. Assumes nothing.
use Rattle.std.proofs.Common.{sym}
use Rattle.order_check.proofs.Told.{err-is}
use Rattle.book.proofs.Holding.{holds}
use Rattle.book_teaching.proofs.Outcomes.{withdraw-unheld}
use Rattle.book_teach.proofs.try_withdraw.Goals as goal

pub returns-in_err-places : goal.returns-in_err-places
returns-in_err-places c = rw (err-is _ _ c.from_residual.ensures.1) (withdraw-unheld _ _ _ (sym c.in_err-places.ensures))

pub withdraw_order-requires : goal.withdraw_order-requires
withdraw_order-requires c = holds _ _ (sym c.in_ok-places.ensures)
