-- Each turn puts a node over the trees behind it.
use Rattle.std.proofs.Common.{◌≡◌, ℕ, ◌*◌, ◌-◌, Bool, true, false, eqb, List, refl, sym, ◌∙◌, arith}
use Rattle.std.proofs.lemmas.Bool.{eqb-true, eqb-false}
use Rattle.std.specs.Bool.{then_some}
use Rattle.order.specs.Reading.{tree_of}
use Rattle.order.specs.Spans.{measured_of}
use Rattle.order.proofs.Stacking.{Stacked, stacked_start, stacked_few, stacked_room, stacked_unsound, stacked_short, stacked_leaf, stacked_next, stacked_other, stacked_one}
use Rattle.order_fit.proofs.deep.Goals as goal

pub loop-line-init : goal.loop-line-init
loop-line-init c = let p = c.requires in rw p.0 (stacked_start _ _ p.0 p.1 p.2)

pub returns-then-not-node_ok-clause-came : goal.returns-then-not-node_ok-clause-came
returns-then-not-node_ok-clause-came c =
    stacked_unsound _ _ _ _ _ _ _ c.loop-line.invariant (omega arith) (2 * (c.loop-line.line - 1)) _ _ (omega arith) refl refl (sym c.node_ok.ensures ∙ c.if-not-node_ok.true)

pub offset_bounds-stack-row : goal.offset_bounds-stack-row
offset_bounds-stack-row c = omega (arith, (stacked_few _ _ _ _ _ _ _ c.loop-line.invariant).2)

pub bounds-stack-row : goal.bounds-stack-row
bounds-stack-row c = stacked_room _ _ _ _ _ _ _ c.loop-line.invariant (omega arith)

pub overflow_add-row : goal.overflow_add-row
overflow_add-row c = omega (arith, (stacked_few _ _ _ _ _ _ _ c.loop-line.invariant).2)

pub overflow_add-run : goal.overflow_add-run
overflow_add-run c =
    let few = stacked_few _ _ _ _ _ _ _ c.loop-line.invariant in
    omega (arith, few.1, few.2)

pub loop-line-preserved-then-children-eq0 : goal.loop-line-preserved-then-children-eq0
loop-line-preserved-then-children-eq0 c =
    stacked_leaf _ _ _ _ _ _ _ c.loop-line.invariant (omega arith) (2 * (c.loop-line.line - 1)) _ _ (omega arith) refl refl (sym c.node_ok.ensures ∙ c.if-not-node_ok.false) c.if-children-eq0.true

pub pop-requires : goal.pop-requires
pop-requires c =
    let few = stacked_few _ _ _ _ _ _ _ c.loop-line.invariant in
    (few.0, few.1, omega (arith, c.if-children-eq0.false), c.loop-line.invariant.shallow)

pub returns-in_err-row-clause-came : goal.returns-in_err-row-clause-came
returns-in_err-row-clause-came c =
    let i = c.loop-line.invariant in
    c.from_residual.ensures ∙ stacked_short _ _ _ _ _ _ _ i (omega arith) (2 * (c.loop-line.line - 1)) _ _ (omega arith) refl refl (c.in_err-row.ensures i.row i.stands)

pub loop-line-preserved : goal.loop-line-preserved
loop-line-preserved c =
    let i = c.loop-line.invariant in
    stacked_next _ _ _ _ _ _ _ i (omega arith) (2 * (c.loop-line.line - 1)) _ _ (omega arith) refl refl _ _ (sym c.node_ok.ensures ∙ c.if-not-node_ok.false) (omega (arith, c.if-children-eq0.false)) (c.in_ok-row.ensures i.row i.stands)

-- The words are a tree just if they are one row of one tree.
by_many : (os ss₀ ss : List ℕ) (at many top run : ℕ) → Stacked os ss₀ ss at many top run → at ≡ 0 → (b : Bool) → eqb many 1 ≡ b → then_some b top ≡ measured_of (tree_of os)
by_many os ss₀ ss at many top run s done true e = stacked_one os ss₀ ss at many top run s done (eqb-true _ _ e)
by_many os ss₀ ss at many top run s done false e = stacked_other os ss₀ ss at many top run s done (eqb-false _ _ e)

pub returns-clause-came : goal.returns-clause-came
returns-clause-came c = c.then_some.ensures ∙ by_many _ _ _ _ _ _ _ c.loop-line.invariant (omega (arith, c.loop-line-test.false)) _ refl
