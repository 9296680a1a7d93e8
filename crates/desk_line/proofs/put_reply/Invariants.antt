-- The letter and the numbers before are written.
use Rattle.desk_line.proofs.Printed.{Numbered}
use Rattle.desk_line.proofs.put_reply.Given as goal

abbrev pub invariant-loop-n : goal.invariant-loop-n
invariant-loop-n l = Numbered l.fn.letter l.n-items l.fn.out l.out l.n-index l.end
