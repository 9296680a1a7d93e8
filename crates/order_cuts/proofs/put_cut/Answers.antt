-- `order_cuts::put_cut` meets its contract: what is read at a line that is left, and what is so once its two words are written. Assumes nothing.
use Prim.Native.Nat.{ℕ}
use mathlib.Core.Path.{subst, ◌∙◌}
use native.Mathlib.Omega.{arith}
use lib.ListN.{length-set}
use Rattle.order.proofs.LineSpans.{line-open, line-starts, levels_room, spans-room}
use Rattle.order.proofs.Spots.{passed-short}
use Rattle.order.proofs.Putting.{Putting, put_start, put_done, turning}
use Rattle.order_cuts.proofs.put_cut.Goals as goal

pub bounds-levels-line : goal.bounds-levels-line
bounds-levels-line c = let lines = c.args.lines.now in omega (arith, c.requires.line_in_bounds, levels_room _ _ lines.order.gone_over.sound lines.levelled)

pub line_end-end-requires : goal.line_end-end-requires
line_end-end-requires c = omega (arith, c.requires.line_in_bounds, spans-room _ _ c.args.lines.now.order.gone_over)

pub loop-at-init : goal.loop-at-init
loop-at-init c =
    let a = c.args in
    let lines = a.lines.now in
    let words = lines.order.words.now in
    let o = line-open words a.line lines.order.gone_over.sound c.requires.line_in_bounds in
    let r = line-starts words lines.order.spans.now lines.levels.now a.line lines.order.gone_over lines.levelled c.requires.line_in_bounds in
    subst (λ (own : ℕ). Putting words a.line own a.d c.line_end-end.result a.out.now a.out.now a.line 0) r.1
    (put_start words a.line a.d c.line_end-end.result a.out.now o (c.line_end-end.ensures ∙ r.0) c.requires.d_in_bounds)

pub bounds-levels-at : goal.bounds-levels-at
bounds-levels-at c =
    let h = turning _ _ _ _ _ _ _ _ _ _ _ c.args.lines.now.order.gone_over c.args.lines.now.levelled c.loop-at.invariant c.loop-at-test.true in
    h.step.levelled

pub overflow_sub-levels : goal.overflow_sub-levels
overflow_sub-levels c =
    let h = turning _ _ _ _ _ _ _ _ _ _ _ c.args.lines.now.order.gone_over c.args.lines.now.levelled c.loop-at.invariant c.loop-at-test.true in
    h.step.above

pub overflow_mul-out : goal.overflow_mul-out
overflow_mul-out c =
    let h = turning _ _ _ _ _ _ _ _ _ _ _ c.args.lines.now.order.gone_over c.args.lines.now.levelled c.loop-at.invariant c.loop-at-test.true in
    omega (arith, h.step.lies)

pub offset_bounds-order-at : goal.offset_bounds-order-at
offset_bounds-order-at c =
    let h = turning _ _ _ _ _ _ _ _ _ _ _ c.args.lines.now.order.gone_over c.args.lines.now.levelled c.loop-at.invariant c.loop-at-test.true in
    omega (arith, h.step.lies, passed-short _ c.args.lines.now.order.gone_over.sound)

pub bounds-order-at : goal.bounds-order-at
bounds-order-at c =
    let h = turning _ _ _ _ _ _ _ _ _ _ _ c.args.lines.now.order.gone_over c.args.lines.now.levelled c.loop-at.invariant c.loop-at-test.true in
    omega (arith, h.step.lies)

pub offset_bounds-out-count : goal.offset_bounds-out-count
offset_bounds-out-count c =
    let h = turning _ _ _ _ _ _ _ _ _ _ _ c.args.lines.now.order.gone_over c.args.lines.now.levelled c.loop-at.invariant c.loop-at-test.true in
    omega (arith, h.room)

pub bounds-out-count : goal.bounds-out-count
bounds-out-count c =
    let h = turning _ _ _ _ _ _ _ _ _ _ _ c.args.lines.now.order.gone_over c.args.lines.now.levelled c.loop-at.invariant c.loop-at-test.true in
    omega (arith, h.room, h.same)

pub overflow_mul-at : goal.overflow_mul-at
overflow_mul-at c =
    let h = turning _ _ _ _ _ _ _ _ _ _ _ c.args.lines.now.order.gone_over c.args.lines.now.levelled c.loop-at.invariant c.loop-at-test.true in
    omega (arith, h.step.lies)

pub overflow_add-at : goal.overflow_add-at
overflow_add-at c =
    let h = turning _ _ _ _ _ _ _ _ _ _ _ c.args.lines.now.order.gone_over c.args.lines.now.levelled c.loop-at.invariant c.loop-at-test.true in
    omega (arith, h.step.lies)

pub offset_bounds-order-at-in-loop-at : goal.offset_bounds-order-at-in-loop-at
offset_bounds-order-at-in-loop-at c =
    let h = turning _ _ _ _ _ _ _ _ _ _ _ c.args.lines.now.order.gone_over c.args.lines.now.levelled c.loop-at.invariant c.loop-at-test.true in
    omega (arith, h.step.lies, passed-short _ c.args.lines.now.order.gone_over.sound)

pub bounds-order-at-in-loop-at : goal.bounds-order-at-in-loop-at
bounds-order-at-in-loop-at c =
    let h = turning _ _ _ _ _ _ _ _ _ _ _ c.args.lines.now.order.gone_over c.args.lines.now.levelled c.loop-at.invariant c.loop-at-test.true in
    omega (arith, h.step.lies)

pub overflow_add-out : goal.overflow_add-out
overflow_add-out c =
    let h = turning _ _ _ _ _ _ _ _ _ _ _ c.args.lines.now.order.gone_over c.args.lines.now.levelled c.loop-at.invariant c.loop-at-test.true in
    omega (arith, h.room)

pub offset_bounds-out-count-in-loop-at : goal.offset_bounds-out-count-in-loop-at
offset_bounds-out-count-in-loop-at c =
    let h = turning _ _ _ _ _ _ _ _ _ _ _ c.args.lines.now.order.gone_over c.args.lines.now.levelled c.loop-at.invariant c.loop-at-test.true in
    omega (arith, h.room)

pub bounds-out-count-in-loop-at : goal.bounds-out-count-in-loop-at
bounds-out-count-in-loop-at c =
    let h = turning _ _ _ _ _ _ _ _ _ _ _ c.args.lines.now.order.gone_over c.args.lines.now.levelled c.loop-at.invariant c.loop-at-test.true in
    simp length-set (omega (arith, h.room, h.same))

pub next_line-at-requires : goal.next_line-at-requires
next_line-at-requires c =
    let h = turning _ _ _ _ _ _ _ _ _ _ _ c.args.lines.now.order.gone_over c.args.lines.now.levelled c.loop-at.invariant c.loop-at-test.true in
    omega (arith, h.step.lies)

pub overflow_add-count : goal.overflow_add-count
overflow_add-count c =
    let h = turning _ _ _ _ _ _ _ _ _ _ _ c.args.lines.now.order.gone_over c.args.lines.now.levelled c.loop-at.invariant c.loop-at-test.true in
    omega (arith, h.room)

pub loop-at-smaller : goal.loop-at-smaller
loop-at-smaller c =
    let h = turning _ _ _ _ _ _ _ _ _ _ _ c.args.lines.now.order.gone_over c.args.lines.now.levelled c.loop-at.invariant c.loop-at-test.true in
    omega (arith, h.step.on _ (rw c.from-below.ensures at c.next_line-at.ensures), c.loop-at-test.true)

pub loop-at-preserved : goal.loop-at-preserved
loop-at-preserved c =
    let h = turning _ _ _ _ _ _ _ _ _ _ _ c.args.lines.now.order.gone_over c.args.lines.now.levelled c.loop-at.invariant c.loop-at-test.true in
    h.next _ _ (rw c.from-below.ensures at c.kept_children.ensures) (rw c.from-below.ensures at c.next_line-at.ensures)

pub returns : goal.returns
returns c = let w = put_done _ _ _ _ _ _ _ _ _ c.loop-at.invariant c.loop-at-test.false in record { came = w.0; wrote = w.1 }
