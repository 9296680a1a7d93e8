-- `ofb_check` meets its contract: the line is 0. Assumes nothing.
use mathlib.Core.Path.{ap}
use native.Mathlib.Omega.{arith}
use Rattle.figures.specs.declared.Answer.{Answer}
use Rattle.book.proofs.Checking.{check_line}
use Rattle.ofb.proofs.ofb_check.Goals as goal

pub told-requires : goal.told-requires
told-requires c = omega (arith, ap (λ (a : Answer). a.line) c.check-answer.ensures, check_line c.args.book.now)
