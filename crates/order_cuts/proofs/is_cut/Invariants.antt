-- Before each turn of `is_cut` what was gone over of the cut is the front of the tree, and the rest of the tree is left. Assumes nothing.
use Prim.Native.Nat.{◌-◌}
use Rattle.order.proofs.Comparing.{Comparing}
use Rattle.order_cuts.proofs.is_cut.Given as goal

abbrev pub invariant-loop-at : goal.invariant-loop-at
invariant-loop-at l = Comparing l.lines.order.words.now l.line l.own l.d l.end l.at l.tree l.rest

abbrev pub decreases-loop-at : goal.decreases-loop-at
decreases-loop-at l = l.end - l.at
