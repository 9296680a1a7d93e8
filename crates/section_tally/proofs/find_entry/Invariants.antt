-- What a turn of `section_tally::find_entry` keeps: the key can only stand between `low` and `high`. Each leaves fewer entries between the two.
use Rattle.std.proofs.Common.{◌-◌}
use Rattle.section_tally.specs.Tallying.{listed}
use Rattle.section_tally.proofs.Tallies.{Between}
use Rattle.section_tally.proofs.find_entry.Given as goal

abbrev pub invariant-loop-low : goal.invariant-loop-low
invariant-loop-low l = Between l.key (listed l.starts l.book) l.low l.high

abbrev pub decreases-loop-low : goal.decreases-loop-low
decreases-loop-low l = l.high - l.low
