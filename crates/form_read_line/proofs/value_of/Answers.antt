-- `form_read_line::value_of` meets its contract. Assumes nothing.
use Rattle.std.proofs.Common.{arith}
use Rattle.form.specs.Reading.{value}
use Rattle.form_read_line.proofs.value_of.Goals as goal

pub returns : goal.returns
unfolding value
returns c = omega arith
