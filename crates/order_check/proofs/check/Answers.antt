-- `order_check::check` meets its contract: the cause, with line 0. Assumes nothing.
use mathlib.Core.Path.{ap, ◌∙◌}
use Rattle.figures.specs.Answers.{answered}
use Rattle.order.specs.Answers.{check_of}
use Rattle.order_check.proofs.check.Goals as goal

pub returns : goal.returns
unfolding check_of
returns c = c.from.ensures ∙ ap answered c.cause.ensures
