-- The trees whose depths were gone over are taken, and the first one.
use Rattle.std.proofs.Common.{◌≡◌, suc, length}
use Rattle.order.specs.Trees.{Forest, depth_f}
use Rattle.order.specs.Reading.{first_trees}
use Rattle.order.specs.Spans.{StackIs}
use Rattle.order_fit.proofs.pop.Given as goal

abbrev pub invariant-loop-h : goal.invariant-loop-h
invariant-loop-h l = (f : Forest) → StackIs l.fn.row.many l.fn.row.depth l.run l.stack f → l.depth ≡ depth_f (first_trees (suc (length l.yielded)) f)
