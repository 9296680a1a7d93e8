-- `order_parts::kind_of` meets its contract, by what it is told. Assumes nothing.
use mathlib.Core.Path.{refl}
use Rattle.words.specs.Base.{when◌then◌else◌}
use Rattle.order_parts.proofs.kind_of.Goals as goal

pub returns-then-low : goal.returns-then-low
unfolding when◌then◌else◌
returns-then-low c = rw c.if-low.true refl

pub returns-else-low : goal.returns-else-low
unfolding when◌then◌else◌
returns-else-low c = rw c.if-low.false refl
