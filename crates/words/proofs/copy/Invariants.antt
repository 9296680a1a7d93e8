-- Before turn i of `words::copy` the first i words stand in front.
use Rattle.std.proofs.Common.{◌≡◌}
use Rattle.words.proofs.Fronts.{fronted}
use Rattle.words.proofs.copy.Given as goal

abbrev pub invariant-loop-i : goal.invariant-loop-i
invariant-loop-i l = l.out ≡ fronted l.words l.initial.out l.i
