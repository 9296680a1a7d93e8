-- `order_cuts::kept_children` meets its contract, by its test. Assumes nothing.
use borrow.Author.Tests.{le-leb, lt-leb}
use Rattle.words.specs.Base.{when◌then◌else◌}
use Rattle.order_cuts.proofs.kept_children.Goals as goal

pub returns-then-d-below : goal.returns-then-d-below
unfolding when◌then◌else◌
returns-then-d-below c = rw (le-leb _ _ c.if-d-below.true)

pub returns-else-d-below : goal.returns-else-d-below
unfolding when◌then◌else◌
returns-else-d-below c = rw (lt-leb _ _ c.if-d-below.false)
