-- `order_check::level_lines` meets its contract: once no line is left, all have their levels. Assumes nothing.
use native.Mathlib.Omega.{arith}
use Rattle.order.proofs.LevelLines.{has-line, levelled_first, level-small, row_below, levelled_next, levelled_all}
use Rattle.order_check.proofs.level_lines.Goals as goal

pub bounds-levels-0 : goal.bounds-levels-0
bounds-levels-0 c = omega (arith, has-line _ c.args.order.gone_over.sound, c.requires)

pub loop-line-init : goal.loop-line-init
loop-line-init c =
    let over = c.args.order.gone_over in
    levelled_first _ _ c.args.levels.now over c.requires

pub overflow_add-below : goal.overflow_add-below
overflow_add-below c = omega (arith, level-small _ _ _ _ c.loop-line.invariant c.loop-line-test.true)

pub level_row-requires : goal.level_row-requires
level_row-requires c = row_below _ _ _ _ c.loop-line.invariant c.loop-line-test.true

pub loop-line-preserved : goal.loop-line-preserved
loop-line-preserved c = levelled_next _ _ _ _ c.loop-line.invariant c.loop-line-test.true _ c.level_row.ensures

pub invariant_of-result : goal.invariant_of-result
invariant_of-result c = record { levelled = levelled_all _ _ _ _ c.loop-line.invariant (omega (arith, c.loop-line-test.false)) }
