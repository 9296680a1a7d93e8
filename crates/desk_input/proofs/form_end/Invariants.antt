-- `desk_input::form_end`: what stands before the next letter line from `from` on ends where that does which stands there from `at` on. Assumes
-- nothing.
use Rattle.std.proofs.Common.{true, ◌≡◌, ◌+◌, drop}
use Rattle.desk_input.specs.Places.{size_to}
use Rattle.desk_input.proofs.form_end.Given as goal

abbrev pub invariant-loop-at : goal.invariant-loop-at
invariant-loop-at l = l.fn.from + size_to true (drop l.fn.from l.text) ≡ l.at + size_to l.starts (drop l.at l.text)
