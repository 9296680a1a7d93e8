-- Each turn closes a row.
use Rattle.std.proofs.Common.{length}
use Rattle.runs_kit.proofs.say.end_tree.Given as goal

abbrev pub decreases-loop-others : goal.decreases-loop-others
decreases-loop-others l = length l.rows.items
