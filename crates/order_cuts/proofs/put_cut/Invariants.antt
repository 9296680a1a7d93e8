-- Before each turn of `put_cut` the cut is written up to a line, and what waits from there on is left. Assumes nothing.
use Prim.Native.Nat.{◌-◌}
use Rattle.order.proofs.Putting.{Putting}
use Rattle.order_cuts.proofs.put_cut.Given as goal

abbrev pub invariant-loop-at : goal.invariant-loop-at
invariant-loop-at l = Putting l.lines.order.words.now l.line l.own l.d l.end l.initial.out l.out l.at l.count

abbrev pub decreases-loop-at : goal.decreases-loop-at
decreases-loop-at l = l.end - l.at
