-- A line that cannot be a node or lacks a child is no tree's, and each other one is a tree more before those of the lines behind.
use Rattle.std.proofs.Common.{refl, sym, ◌∙◌, arith}
use Rattle.order.proofs.Spanning.{back_start, back_unsound, back_lacking, back_next, back_small, back_all, front-start, front-small, leaf_spans, front-leaf, front-node, whole-listed, no_tree}
use Rattle.order_spans.proofs.measure.Goals as goal
use Rattle.order_spans.proofs.measure.Goals.{then-children-eq0, else-children-eq0+in_ok-first}

pub loop-line-init : goal.loop-line-init
loop-line-init c =
    let p = c.requires in
    (back_start _ _ p.1 p.2 p.0, front-start _ _ p.1)

pub returns-then-not-node_ok-clause-came : goal.returns-then-not-node_ok-clause-came
returns-then-not-node_ok-clause-came c =
    let l = c.loop-line in
    (no_tree _ l.spans (back_unsound _ _ _ _ l.invariant.0 _ _ _ c.loop-line-test.true refl refl refl (sym c.node_ok.ensures ∙ c.if-not-node_ok.true))).0

pub returns-then-not-node_ok-clause-listed : goal.returns-then-not-node_ok-clause-listed
returns-then-not-node_ok-clause-listed c =
    let l = c.loop-line in
    (no_tree _ l.spans (back_unsound _ _ _ _ l.invariant.0 _ _ _ c.loop-line-test.true refl refl refl (sym c.node_ok.ensures ∙ c.if-not-node_ok.true))).1

pub overflow_add-run : goal.overflow_add-run
overflow_add-run c =
    let l = c.loop-line in
    omega (arith, front-small _ _ _ _ _ _ _ l.invariant.0 l.invariant.1, l.invariant.0.short)

pub returns-in_err-first-clause-came : goal.returns-in_err-first-clause-came
returns-in_err-first-clause-came c =
    let l = c.loop-line in
    c.from_residual.ensures ∙ (no_tree _ l.spans (back_lacking _ _ _ _ l.invariant.0 _ _ _ c.loop-line-test.true refl refl refl c.in_err-first.ensures)).0

pub returns-in_err-first-clause-listed : goal.returns-in_err-first-clause-listed
returns-in_err-first-clause-listed c =
    let l = c.loop-line in
    (no_tree _ l.spans (back_lacking _ _ _ _ l.invariant.0 _ _ _ c.loop-line-test.true refl refl refl c.in_err-first.ensures)).1

pub put_span-requires : goal.put_span-requires
put_span-requires c =
    let l = c.loop-line in
    let more = c.loop-line-test.true in
    let b = l.invariant.0 in
    elim c.if-children-eq0.branch [
      | then-children-eq0 w ↦ rw w.first-is (more, omega (arith, b.low, b.room), omega (arith, b.low, b.short), omega arith)
      | else-children-eq0+in_ok-first w ↦
          let m = back_small _ _ _ _ _ _ _ b w.in_ok-first.ensures in
          rw w.first-is (more, omega (arith, b.low, b.room), omega (arith, m.0, b.short), omega (arith, m.1, b.short))
    ]

pub loop-line-preserved : goal.loop-line-preserved
loop-line-preserved c =
    let l = c.loop-line in
    let more = c.loop-line-test.true in
    let e = sym c.node_ok.ensures ∙ c.if-not-node_ok.false in
    elim c.if-children-eq0.branch [
      | then-children-eq0 w ↦
          let z = w.if-children-eq0.true in
          rw (c.put_span.ensures, w.first-is, w.run-is) (
            back_next _ _ _ _ l.invariant.0 _ _ _ more refl refl refl _ _ e (leaf_spans _ _ _ _ l.invariant.0 _ _ _ more refl refl refl z),
            front-leaf _ _ _ _ l.invariant.0 _ _ _ more refl refl refl _ _ _ l.invariant.1 e z,
          )
      | else-children-eq0+in_ok-first w ↦
          rw (c.put_span.ensures, w.first-is, w.run-is) (
            back_next _ _ _ _ l.invariant.0 _ _ _ more refl refl refl _ _ e w.in_ok-first.ensures,
            front-node _ _ _ _ l.invariant.0 _ _ _ more refl refl refl _ _ _ _ _ l.invariant.1 e (omega (arith, w.if-children-eq0.false)) w.in_ok-first.ensures,
          )
    ]

pub returns-clause-listed : goal.returns-clause-listed
returns-clause-listed c =
    let l = c.loop-line in
    whole-listed _ _ l.invariant.0.even l.invariant.0.room (back_all _ _ _ _ l.invariant.0 (omega (arith, c.loop-line-test.false)))
