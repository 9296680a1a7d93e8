-- `desk_input::letter_of`: each arm is a law of `Found`. Assumes nothing.
use Rattle.std.proofs.Common.{sym, arith}
use Rattle.desk_input.specs.declared.Letter.TheVariants.{Teach, Withdraw, Judge}
use Rattle.desk_input.proofs.Found.{letter-asks, other_asks}
use Rattle.desk_input.proofs.letter_of.Goals as goal

pub returns-in-84 : goal.returns-in-84
returns-in-84 c = sym (letter-asks Teach c.args.b c.in-84.is)

pub returns-in-87 : goal.returns-in-87
returns-in-87 c = sym (letter-asks Withdraw c.args.b c.in-87.is)

pub returns-in-74 : goal.returns-in-74
returns-in-74 c = sym (letter-asks Judge c.args.b c.in-74.is)

pub returns-in_default : goal.returns-in_default
returns-in_default c = sym (other_asks c.args.b (λ e. omega arith) (λ e. omega arith) (λ e. omega arith))
