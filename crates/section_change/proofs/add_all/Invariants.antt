-- What a turn of `section_change::add_all` keeps: the place that the sweep has reached, from the words that the book began with before the gap was
-- opened. Each passes an entry of one of the two.
use Rattle.std.proofs.Common.{◌+◌}
use Rattle.section_change.proofs.Entering.{Adds}
use Rattle.section_change.proofs.add_all.Given as goal

abbrev pub invariant-loop-rest : goal.invariant-loop-rest
invariant-loop-rest l = Adds l.fn.book l.many l.used l.other l.more l.lacking l.book l.to l.kept l.at l.left l.from l.rest l.count

abbrev pub decreases-loop-rest : goal.decreases-loop-rest
decreases-loop-rest l = l.left + l.rest
