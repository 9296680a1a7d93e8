-- What a turn of `section_change::lower_all` keeps: the pass has come to `at` in the book and to `from` in the other. Each leaves an entry of one or of
-- both fewer.
use Rattle.std.proofs.Common.{◌+◌}
use Rattle.section_change.proofs.Turns.{Lowers}
use Rattle.section_change.proofs.lower_all.Given as goal

abbrev pub invariant-loop-rest : goal.invariant-loop-rest
invariant-loop-rest l = Lowers l.fn.book l.many l.used l.other l.more l.book l.to l.kept l.at l.left l.from l.rest l.count

abbrev pub decreases-loop-rest : goal.decreases-loop-rest
decreases-loop-rest l = l.left + l.rest
