-- Before each turn of `tally_taught` the orders from `at` on are left, as many as the turn's number says. Assumes nothing.
use Rattle.book_recount.proofs.OrdersLeft.{Left}
use Rattle.book_recount.proofs.tally_taught.Given as goal

abbrev pub invariant-loop-left : goal.invariant-loop-left
invariant-loop-left l = Left l.book l.starts l.section l.initial.counts l.counts l.initial.marks l.marks l.at l.left
