-- Each turn writes the last digit of what is left.
use Rattle.std.proofs.Common.{arith}
use Rattle.desk_line.proofs.Printed.{put_none, put_turn, put_all}
use Rattle.desk_line.proofs.put_digits.Goals as goal

pub loop-place-init : goal.loop-place-init
loop-place-init c = put_none _ _ _

pub loop-place-preserved : goal.loop-place-preserved
loop-place-preserved c = put_turn _ _ _ _ c.requires _ _ _ c.loop-place-test.true c.loop-place.invariant c.digit_of.ensures

pub returns : goal.returns
returns c = put_all _ _ _ _ c.requires _ _ (omega (arith, c.loop-place-test.false)) c.loop-place.invariant
