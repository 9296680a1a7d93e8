-- The line lies within the output, each step takes some of the input and no more than there is, and behind it the loop is still there.
use Rattle.std.proofs.Common.{arith, refl, sym}
use lib.Seq.{length-take-le}
use Rattle.desk_loop.proofs.Serving.{reached-first, reached-fits, reached-next, reached-on}
use Rattle.desk_loop.proofs.run.Goals as goal

pub loop-book-init : goal.loop-book-init
loop-book-init g c =
    let b = c.begin-begun in
    (omega (arith, b.auto.book), omega (arith, b.auto.out), reached-first _ _ _ _ _ _ refl (omega arith) b.ensures)

pub slice_bounds-line-end : goal.slice_bounds-line-end
slice_bounds-line-end g c = reached-fits c.loop-book.invariant.2

pub slice_bounds-write_all-end : goal.slice_bounds-write_all-end
slice_bounds-write_all-end g c = sym (length-take-le _ _ (reached-fits c.loop-book.invariant.2))

pub overflow_add-at : goal.overflow_add-at
overflow_add-at g c =
    omega (arith, (reached-on _ _ _ _ _ c.loop-book.invariant.2 _ _ _ c.if-input-at.false c.step-step.ensures).1, c.well_formed)

pub loop-book-smaller : goal.loop-book-smaller
loop-book-smaller g c =
    let t = reached-on _ _ _ _ _ c.loop-book.invariant.2 _ _ _ c.if-input-at.false c.step-step.ensures in
    omega (arith, t.0, t.1)

pub loop-book-preserved : goal.loop-book-preserved
loop-book-preserved g c =
    let i = c.loop-book.invariant in
    let s = c.step-step in
    (omega (arith, s.auto.book, i.0), omega (arith, s.auto.out, i.1), reached-next _ _ _ _ _ i.2 _ _ _ c.if-input-at.false s.ensures)
