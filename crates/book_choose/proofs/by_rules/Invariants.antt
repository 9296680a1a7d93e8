-- `book_choose::by_rules`: what is chosen by the list is what is chosen by the rules left and what those before them name. Assumes nothing.
use Rattle.std.proofs.Common.{◌≡◌, ◌≤◌, ◌-◌, length}
use Rattle.figures.specs.Limits.{most_nodes}
use Rattle.book_choosing.specs.Walking.{chosen_for, chosen_from}
use Rattle.book_choose.proofs.by_rules.Given as goal

abbrev pub invariant-loop : goal.invariant-loop
invariant-loop l = record {
  within : l.at ≤ length l.rules;
  kept : length l.stack ≡ most_nodes;
  left : chosen_for l.k.k l.lines.order.words.now l.rules ≡ chosen_from l.k.k l.lines.order.words.now l.rules l.named (l.count - l.counter) l.at;
}
