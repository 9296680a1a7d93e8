-- `order_check::level_row` meets its contract: before each turn a next tree stands where the loop is. Assumes nothing.
use Prim.Native.Nat.{◌+◌, ◌-◌, ◌<◌}
use mathlib.Core.Path.{◌≡◌, sym, ◌∙◌}
use native.Mathlib.Omega.{arith}
use lib.ListN.{length-set}
use Rattle.order.proofs.LevelLines.{next-tree, hopped-next, hopped-none}
use Rattle.order_check.proofs.level_row.Goals as goal

pub bounds-levels-at : goal.bounds-levels-at
bounds-levels-at c = (next-tree _ _ _ _ c.loop.invariant.row (omega (arith, c.loop-test.true))).within

pub offset_bounds-spans-at : goal.offset_bounds-spans-at
offset_bounds-spans-at c = omega (arith, (next-tree _ _ _ _ c.loop.invariant.row (omega (arith, c.loop-test.true))).told, c.well_formed.0)

pub bounds-spans-at : goal.bounds-spans-at
bounds-spans-at c = (next-tree _ _ _ _ c.loop.invariant.row (omega (arith, c.loop-test.true))).told

pub loop-preserved : goal.loop-preserved
loop-preserved c =
    let l = c.loop in
    let some : 0 < c.args.trees - l.counter = omega (arith, c.loop-test.true) in
    let one : c.args.trees - l.counter - 1 ≡ c.args.trees - (l.counter + 1) = omega arith in
    record {
      row = rw (c.from-at.ensures, length-set l.levels l.at c.args.level, ← one) (next-tree _ _ _ _ l.invariant.row some).others;
      same = rw (c.from-at.ensures, ← one) (hopped-next _ l.at _ _ l.levels some ∙ l.invariant.same);
    }

pub returns : goal.returns
returns c = let l = c.loop in sym (hopped-none (c.args.trees - l.counter) l.at _ _ l.levels (omega (arith, c.loop-test.false))) ∙ l.invariant.same
