-- The nodes from line `line` on are gone over.
use Rattle.std.proofs.Common.{◌*◌}
use Rattle.order.proofs.Stacking.{Stacked}
use Rattle.order_fit.proofs.deep.Given as goal

abbrev pub invariant-loop-line : goal.invariant-loop-line
invariant-loop-line l = Stacked l.order l.fn.stack l.stack (2 * l.line) l.row.many l.row.depth l.run
