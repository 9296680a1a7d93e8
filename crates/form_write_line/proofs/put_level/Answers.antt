-- One store, or two.
use Rattle.std.proofs.Common.{arith, length-set}
use Rattle.form.proofs.LineBytes.{one_byte, two_bytes, one_store, two_stores}
use Rattle.form_write_line.proofs.put_level.Goals as goal

pub bounds-out-0 : goal.bounds-out-0
bounds-out-0 c = omega (arith, one_byte _ c.if-level-lt10.true)

pub bounds-out-0-else-level-lt10 : goal.bounds-out-0-else-level-lt10
bounds-out-0-else-level-lt10 c = omega (arith, two_bytes _ c.if-level-lt10.false)

pub bounds-out-1 : goal.bounds-out-1
bounds-out-1 c = simp length-set (omega (arith, two_bytes _ c.if-level-lt10.false))

pub returns-then-level-lt10-clause-took : goal.returns-then-level-lt10-clause-took
returns-then-level-lt10-clause-took c = one_byte _ c.if-level-lt10.true

pub returns-then-level-lt10-clause-wrote : goal.returns-then-level-lt10-clause-wrote
returns-then-level-lt10-clause-wrote c = one_store _ _ _ c.if-level-lt10.true c.requires c.digit_of.ensures

pub returns-else-level-lt10-clause-took : goal.returns-else-level-lt10-clause-took
returns-else-level-lt10-clause-took c = two_bytes _ c.if-level-lt10.false

pub returns-else-level-lt10-clause-wrote : goal.returns-else-level-lt10-clause-wrote
returns-else-level-lt10-clause-wrote c = two_stores _ _ _ _ c.if-level-lt10.false c.requires c.digit_of-else-level-lt10.ensures c.digit_of-else-level-lt10-2.ensures
