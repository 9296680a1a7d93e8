-- Each turn goes past a node.
use Rattle.std.proofs.Common.{length}
use Rattle.runs_kit.proofs.say.put_tree.Given as goal

abbrev pub decreases-loop-rest : goal.decreases-loop-rest
decreases-loop-rest l = length l.rest
