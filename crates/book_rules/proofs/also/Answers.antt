-- `book_rules::also`: an image is named beside what was named. Assumes nothing.
use borrow.Author.Tests.{eq-eqb, ne_eqb}
use Rattle.words.specs.Base.{when◌then◌else◌}
use Rattle.book_choosing.specs.Walking.{also_of}
use Rattle.book_rules.proofs.also.Goals as goal

pub returns-in-Nothing : goal.returns-in-Nothing
unfolding also_of
returns-in-Nothing c = rw c.in-Nothing.is

pub returns-in-One : goal.returns-in-One
unfolding also_of when◌then◌else◌
returns-in-One c = rw (c.in-One.is, eq-eqb _ _ c.if-image-first.true)

pub returns-in-One-2 : goal.returns-in-One-2
unfolding also_of when◌then◌else◌
returns-in-One-2 c = rw (c.in-One.is, ne_eqb _ _ c.if-image-first.false)

pub returns-in-Two : goal.returns-in-Two
unfolding also_of
returns-in-Two c = rw c.in-Two.is
