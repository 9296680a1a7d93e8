-- `form_read::lines`: what is still to be read, at each line. Assumes nothing.
use Rattle.std.proofs.Common.{length, ◌-◌}
use Rattle.form.proofs.Turn.{State}
use Rattle.form_read.proofs.lines.Given as goal

abbrev pub invariant-loop-at : goal.invariant-loop-at
invariant-loop-at l = State l.text l.words l.latest l.at l.n l.greatest

abbrev pub decreases-loop-at : goal.decreases-loop-at
decreases-loop-at l = length l.text - l.at
