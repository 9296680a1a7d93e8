-- The trees that are left are a row that begins where the loop of `level_row` is, and what they are to get is what the row is to get. Assumes nothing.
use Prim.Native.Nat.{◌-◌}
use mathlib.Core.Path.{◌≡◌}
use lib.ListN.{length}
use Rattle.order.specs.Spans.{RowAt, hopped}
use Rattle.order_check.proofs.level_row.Given as goal

abbrev pub invariant-loop : goal.invariant-loop
invariant-loop l = record {
  row : RowAt l.spans l.at (l.trees - l.counter) (length l.levels);
  same : hopped (l.trees - l.counter) l.at l.level l.spans l.levels ≡ hopped l.trees l.from l.level l.spans l.initial.levels;
}
