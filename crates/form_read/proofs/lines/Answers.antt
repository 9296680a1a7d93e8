-- `form_read::lines`: each turn reads one line, which has room, and takes some bytes and no more than there are. Assumes nothing.
use Rattle.std.proofs.Common.{arith}
use Rattle.form.proofs.Turn.{start, empty-text, all_read, parents, bad_line, room_for, bytes_of, turn}
use Rattle.form_read.proofs.lines.Goals as goal

pub returns-then-text-eq0 : goal.returns-then-text-eq0
returns-then-text-eq0 c = empty-text _ _ _ c.if-text-eq0.true c.refused.ensures

pub loop-at-init : goal.loop-at-init
loop-at-init c = start _ _ c.if-text-eq0.false c.requires

pub line_at-requires : goal.line_at-requires
line_at-requires c = let s = c.loop-at.invariant in (s.inside, parents s)

pub returns-in-Err : goal.returns-in-Err
returns-in-Err c = bad_line c.loop-at.invariant _ _ _ c.loop-at-test.true c.line_at.ensures.answered c.in-Err.is c.refused-in-Err.ensures c.number.ensures

pub bounds-words-here : goal.bounds-words-here
bounds-words-here c = omega (arith, room_for c.loop-at.invariant c.line_at.ensures.answered c.in-Ok.is)

pub bounds-words-children : goal.bounds-words-children
bounds-words-children c = omega (arith, room_for c.loop-at.invariant c.line_at.ensures.answered c.in-Ok.is)

pub offset_bounds-latest-level : goal.offset_bounds-latest-level
offset_bounds-latest-level c = omega (arith, room_for c.loop-at.invariant c.line_at.ensures.answered c.in-Ok.is)

pub bounds-latest-level : goal.bounds-latest-level
bounds-latest-level c = omega (arith, room_for c.loop-at.invariant c.line_at.ensures.answered c.in-Ok.is)

pub overflow_add-greatest : goal.overflow_add-greatest
overflow_add-greatest c = omega (arith, room_for c.loop-at.invariant c.line_at.ensures.answered c.in-Ok.is)

pub overflow_add-at : goal.overflow_add-at
overflow_add-at c = omega (arith, bytes_of c.loop-at.invariant c.line_at.ensures.answered c.in-Ok.is)

pub loop-at-smaller : goal.loop-at-smaller
loop-at-smaller c = omega (arith, bytes_of c.loop-at.invariant c.line_at.ensures.answered c.in-Ok.is)

pub loop-at-preserved : goal.loop-at-preserved
loop-at-preserved c = turn c.loop-at.invariant c.line_at.ensures.answered c.in-Ok.is _ c.line_at.ensures.counted

pub returns : goal.returns
returns c = all_read c.loop-at.invariant _ c.loop-at-test.false c.wrote.ensures
