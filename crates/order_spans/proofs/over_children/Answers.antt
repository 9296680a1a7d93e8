-- Children that are all leaves are known, and each other child is the first of the trees that are left.
use Rattle.std.proofs.Common.{◌≡◌, ℕ, ◌+◌, ◌-◌, Some, refl, sym, ap, ◌∙◌, arith}
use Rattle.order.proofs.Spanning.{over-next, over-lacking, over-all, front-leaves, first-lacking, first-over}
use Rattle.order_spans.proofs.over_children.Goals as goal

pub returns-then-children-run : goal.returns-then-children-run
returns-then-children-run c =
    let p = c.requires in
    sym (front-leaves _ _ _ _ _ _ _ p.first_span p.measurable.2 c.if-children-run.true ∙ ap (λ (n : ℕ). Some (record { end = c.args.from + n; depth = 1 })) (sym c.from.ensures))

pub returns-then-n-from : goal.returns-then-n-from
returns-then-n-from c =
    let p = c.requires in
    sym (first-lacking _ _ _ _ _ _ _ p.measurable.0.1 p.measurable.0.2 p.measurable.1 p.spans_are p.first_span p.measurable.2 c.if-n-from.true)

pub loop-init : goal.loop-init
loop-init c =
    let p = c.requires in
    first-over _ _ _ _ _ _ _ p.measurable.0.1 p.measurable.0.2 p.measurable.1 p.spans_are p.first_span p.measurable.2 c.if-n-from.false

pub returns-then-n-end : goal.returns-then-n-end
returns-then-n-end c =
    let p = c.requires.measurable.0 in
    sym (over-lacking _ _ _ _ p.1 p.2 _ _ _ c.loop.invariant c.if-n-end.true (omega arith))

pub loop-preserved : goal.loop-preserved
loop-preserved c =
    let p = c.requires.measurable.0 in
    let e : c.args.children - (c.loop.counter + 1) ≡ c.args.children - c.loop.counter - 1 = omega arith in
    rw (e, c.deeper-depth.ensures) (over-next _ _ _ _ p.1 p.2 _ _ _ c.loop.invariant _ _ c.if-n-end.false (omega arith) c.from-end.ensures refl)

pub returns : goal.returns
returns c =
    let p = c.requires.measurable.0 in
    sym (over-all _ _ _ _ p.1 p.2 _ _ _ c.loop.invariant (omega arith))
