-- `order_cuts::find_line` meets its contract: the cause refuses, or the order is looked at. Assumes nothing.
use mathlib.Core.Path.{ap, sym, ◌∙◌}
use Rattle.figures.proofs.SameRefusal.{not_done}
use Rattle.order.specs.Standing.{Refused, place_found}
use Rattle.order.proofs.Lines.{place-refused}
use Rattle.order_check.proofs.Told.{err-is}
use Rattle.order_cuts.proofs.find_line.Goals as goal

pub returns-in_err-cause_into-clause-came : goal.returns-in_err-cause_into-clause-came
returns-in_err-cause_into-clause-came c =
    let e = c.in_err-cause_into.ensures.came in
    ap place_found (err-is _ _ c.from_residual.ensures.1) ∙ ap Refused e ∙ sym (place-refused _ _ (λ h. not_done _ (e ∙ h)))
