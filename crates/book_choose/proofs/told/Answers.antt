-- `book_choose::told`: by what is named. Assumes nothing.
use Rattle.book_choosing.specs.Walking.{told_of}
use Rattle.book_choose.proofs.told.Goals as goal

pub returns-in-Nothing : goal.returns-in-Nothing
unfolding told_of
returns-in-Nothing c = rw c.in-Nothing.is

pub returns-in-One : goal.returns-in-One
unfolding told_of
returns-in-One c = rw c.in-One.is

pub returns-in-Two : goal.returns-in-Two
unfolding told_of
returns-in-Two c = rw c.in-Two.is
