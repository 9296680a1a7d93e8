-- `order_cuts::is_cut` meets its contract: what is read at a line that is left, and where it differs from the tree's words. Assumes nothing.
use Prim.Native.Nat.{ℕ, ◌-◌}
use mathlib.Core.Path.{subst, ◌∙◌}
use native.Mathlib.Omega.{arith}
use lib.ListN.{length, drop, length-drop}
use lib.Seq.{take_all}
use Rattle.order.proofs.Spots.{passed-short}
use Rattle.order.proofs.LineSpans.{line-open, line-starts, spans-room, levels_room}
use Rattle.order.proofs.Comparing.{Comparing, compare_start, compared_all, step, ends-early, other_code, other_children, both_alike}
use Rattle.order_cuts.proofs.is_cut.Goals as goal
use Rattle.order_cuts.proofs.is_cut.Goals.{then-order-at-via-then-order-at, then-order-at-via-else-order-at+then-kept_children-children}

pub bounds-levels-line : goal.bounds-levels-line
bounds-levels-line c = let lines = c.args.lines.now in omega (arith, c.requires, levels_room _ _ lines.order.gone_over.sound lines.levelled)

pub line_end-end-requires : goal.line_end-end-requires
line_end-end-requires c = omega (arith, c.requires, spans-room _ _ c.args.lines.now.order.gone_over)

pub loop-at-init : goal.loop-at-init
loop-at-init c =
    let a = c.args in
    let lines = a.lines.now in
    let words = lines.order.words.now in
    let o = line-open words a.line lines.order.gone_over.sound c.requires in
    let r = line-starts words lines.order.spans.now lines.levels.now a.line lines.order.gone_over lines.levelled c.requires in
    subst (λ (own : ℕ). Comparing words a.line own a.d c.line_end-end.result a.line a.tree.now a.tree.now) r.1
    (compare_start words a.line a.d c.line_end-end.result a.tree.now o (c.line_end-end.ensures ∙ r.0))

pub returns-in_default : goal.returns-in_default
returns-in_default c = let lines = c.args.lines.now in ends-early _ _ _ _ _ _ _ _ c.loop-at.invariant _ _ lines.order.gone_over lines.levelled c.loop-at-test.true c.in_default.len_below

pub returns-then-order-at : goal.returns-then-order-at
returns-then-order-at c =
    let lines = c.args.lines.now in
    elim c.then-order-at.branch [
      | then-order-at-via-then-order-at w ↦ other_code _ _ _ _ _ _ _ _ c.loop-at.invariant _ _ lines.order.gone_over lines.levelled c.loop-at-test.true w.if-order-at.true
      | then-order-at-via-else-order-at+then-kept_children-children w ↦
          other_children _ _ _ _ _ _ _ _ c.loop-at.invariant _ _ lines.order.gone_over lines.levelled c.loop-at-test.true _ (rw c.from-under.ensures at w.kept_children.ensures) w.if-kept_children-children.true
    ]

pub bounds-levels-at : goal.bounds-levels-at
bounds-levels-at c =
    let lines = c.args.lines.now in
    let h = step _ _ _ _ _ _ _ _ c.loop-at.invariant _ _ lines.order.gone_over lines.levelled c.loop-at-test.true in
    h.levelled

pub overflow_sub-levels : goal.overflow_sub-levels
overflow_sub-levels c =
    let lines = c.args.lines.now in
    let h = step _ _ _ _ _ _ _ _ c.loop-at.invariant _ _ lines.order.gone_over lines.levelled c.loop-at-test.true in
    h.above

pub overflow_mul-at : goal.overflow_mul-at
overflow_mul-at c =
    let lines = c.args.lines.now in
    let h = step _ _ _ _ _ _ _ _ c.loop-at.invariant _ _ lines.order.gone_over lines.levelled c.loop-at-test.true in
    omega (arith, h.lies)

pub offset_bounds-order-at : goal.offset_bounds-order-at
offset_bounds-order-at c =
    let lines = c.args.lines.now in
    let h = step _ _ _ _ _ _ _ _ c.loop-at.invariant _ _ lines.order.gone_over lines.levelled c.loop-at-test.true in
    omega (arith, h.lies, passed-short _ lines.order.gone_over.sound)

pub bounds-order-at : goal.bounds-order-at
bounds-order-at c =
    let lines = c.args.lines.now in
    let h = step _ _ _ _ _ _ _ _ c.loop-at.invariant _ _ lines.order.gone_over lines.levelled c.loop-at-test.true in
    omega (arith, h.lies)

pub overflow_mul-at-else-order-at : goal.overflow_mul-at-else-order-at
overflow_mul-at-else-order-at c =
    let lines = c.args.lines.now in
    let h = step _ _ _ _ _ _ _ _ c.loop-at.invariant _ _ lines.order.gone_over lines.levelled c.loop-at-test.true in
    omega (arith, h.lies)

pub overflow_add-at : goal.overflow_add-at
overflow_add-at c =
    let lines = c.args.lines.now in
    let h = step _ _ _ _ _ _ _ _ c.loop-at.invariant _ _ lines.order.gone_over lines.levelled c.loop-at-test.true in
    omega (arith, h.lies)

pub offset_bounds-order-at-else-order-at : goal.offset_bounds-order-at-else-order-at
offset_bounds-order-at-else-order-at c =
    let lines = c.args.lines.now in
    let h = step _ _ _ _ _ _ _ _ c.loop-at.invariant _ _ lines.order.gone_over lines.levelled c.loop-at-test.true in
    omega (arith, h.lies, passed-short _ lines.order.gone_over.sound)

pub bounds-order-at-else-order-at : goal.bounds-order-at-else-order-at
bounds-order-at-else-order-at c =
    let lines = c.args.lines.now in
    let h = step _ _ _ _ _ _ _ _ c.loop-at.invariant _ _ lines.order.gone_over lines.levelled c.loop-at-test.true in
    omega (arith, h.lies)

pub next_line-at-requires : goal.next_line-at-requires
next_line-at-requires c =
    let lines = c.args.lines.now in
    let h = step _ _ _ _ _ _ _ _ c.loop-at.invariant _ _ lines.order.gone_over lines.levelled c.loop-at-test.true in
    omega (arith, h.lies)

pub loop-at-smaller : goal.loop-at-smaller
loop-at-smaller c =
    let lines = c.args.lines.now in
    let h = step _ _ _ _ _ _ _ _ c.loop-at.invariant _ _ lines.order.gone_over lines.levelled c.loop-at-test.true in
    omega (arith, h.on _ (rw c.from-under.ensures at c.next_line-at.ensures), c.loop-at-test.true)

pub loop-at-preserved : goal.loop-at-preserved
loop-at-preserved c =
    let lines = c.args.lines.now in
    let p = both_alike _ _ _ _ _ _ _ _ c.loop-at.invariant _ _ lines.order.gone_over lines.levelled c.loop-at-test.true
    _ _ c.in-len2-up.len_at_least c.if-order-at.false (rw c.from-under.ensures at c.kept_children.ensures) c.if-kept_children-children.false
    (rw c.from-under.ensures at c.next_line-at.ensures) in
    let rest = c.loop-at.rest.now in
    rw (take_all (length rest - 2) (drop 2 rest) (omega (arith, length-drop 2 rest))) p

pub returns : goal.returns
returns c = c.is_empty.ensures ∙ compared_all _ _ _ _ _ _ _ _ c.loop-at.invariant c.loop-at-test.false
