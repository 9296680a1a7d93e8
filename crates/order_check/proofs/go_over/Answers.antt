-- `order_check::go_over` meets its contract: the cause refuses, or the spans listed are the order's. Assumes nothing.
use mathlib.Core.Path.{ap, sym, ◌∙◌}
use Rattle.figures.specs.Refusals.{number_told}
use Rattle.order_check.proofs.Told.{err-is}
use Rattle.order_check.proofs.go_over.Goals as goal

pub returns-in_err-cause_into-clause-came : goal.returns-in_err-cause_into-clause-came
returns-in_err-cause_into-clause-came c = ap number_told (err-is _ _ c.from_residual.ensures.1) ∙ c.in_err-cause_into.ensures.came

pub returns-clause-came : goal.returns-clause-came
returns-clause-came c = c.in_ok-cause_into.ensures.came

pub invariant_of-result : goal.invariant_of-result
invariant_of-result c = let e = c.in_ok-cause_into.ensures in record { gone_over = e.listed (sym e.came) }
