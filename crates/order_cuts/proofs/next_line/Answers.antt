-- `order_cuts::next_line` meets its contract, by how deep the line lies. Assumes nothing.
use mathlib.Core.Path.{refl}
use borrow.Author.Tests.{le-leb, lt-leb}
use Rattle.words.specs.Base.{when◌then◌else◌}
use native.Mathlib.Omega.{arith}
use Rattle.order.proofs.LineSpans.{spans-room}
use Rattle.order_cuts.proofs.next_line.Goals as goal

pub line_end-requires : goal.line_end-requires
line_end-requires c = omega (arith, c.requires, spans-room _ _ c.args.order.now.gone_over)

pub returns-then-d-below : goal.returns-then-d-below
unfolding when◌then◌else◌
returns-then-d-below c = rw (c.line_end.ensures, le-leb _ _ c.if-d-below.true) refl

pub returns : goal.returns
unfolding when◌then◌else◌
returns c = rw (lt-leb _ _ c.if-d-below.false) refl
