-- `book_form::pass`: what is to be found is found of the entries left, past those that were passed, and the sum is small enough. Assumes nothing.
use Rattle.std.proofs.Common.{◌≡◌, ◌-◌, ◌*◌, ◌≤◌, length, drop}
use Rattle.figures.specs.Limits.{greatest_count}
use Rattle.book.specs.Passes.{stretch_of, stretch}
use Rattle.book_form.proofs.pass.Given as goal

abbrev pub invariant-loop : goal.invariant-loop
invariant-loop l =
    record {
      found : stretch_of l.book l.from l.n l.least l.greatest ≡ stretch l.least l.greatest l.last l.at l.sum (l.n - l.counter) (drop l.at l.book);
      small : l.sum ≤ greatest_count * l.counter;
      kept : length l.stack ≡ length l.initial.stack;
    }
