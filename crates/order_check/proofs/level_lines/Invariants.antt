-- Before each turn of `level_lines` the lines before have their levels, and the trees of the others, which wait, have those of their first lines.
-- Assumes nothing.
use Rattle.order.proofs.LevelLines.{LevelledTo}
use Rattle.order_check.proofs.level_lines.Given as goal

abbrev pub invariant-loop-line : goal.invariant-loop-line
invariant-loop-line l = LevelledTo l.order.words.now l.order.spans.now l.levels l.line
