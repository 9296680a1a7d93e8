-- The digits from `place` on are written, the last first.
use Rattle.desk_line.proofs.Printed.{Put}
use Rattle.desk_line.proofs.put_digits.Given as goal

abbrev pub invariant-loop-place : goal.invariant-loop-place
invariant-loop-place l = Put l.n l.many l.fn.out l.out l.place l.rest
