-- `book_rules::would_change`: by what is named. Assumes nothing.
use Rattle.book_choosing.specs.Walking.{would_change}
use Rattle.book_rules.proofs.would_change.Goals as goal

pub returns-in-Nothing : goal.returns-in-Nothing
unfolding would_change
returns-in-Nothing c = rw c.in-Nothing.is

pub returns-in-One : goal.returns-in-One
unfolding would_change
returns-in-One c = rw c.in-One.is

pub returns-in-Two : goal.returns-in-Two
unfolding would_change
returns-in-Two c = rw c.in-Two.is
