-- `form_read_line::figure_of` meets its contract. Assumes nothing.
use Rattle.std.proofs.Common.{arith}
use Rattle.form.proofs.Spelling.{of-digit}
use Rattle.form_read_line.proofs.figure_of.Goals as goal

pub overflow_sub-b : goal.overflow_sub-b
overflow_sub-b c = let d = of-digit _ c.requires in omega (arith, d)

pub returns : goal.returns
returns c = let d = of-digit _ c.requires in (c.from.ensures, omega (arith, d, c.from.ensures))
