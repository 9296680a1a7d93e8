-- What a turn of `section::search` keeps: the entries left decide what the whole search finds.
use Rattle.std.proofs.Common.{◌-◌}
use Rattle.section.proofs.Searches.{Searched}
use Rattle.section.proofs.search.Given as goal

abbrev pub invariant-loop-passed : goal.invariant-loop-passed
invariant-loop-passed l = Searched l.book l.key l.from l.n l.last l.at (l.n - l.passed)
