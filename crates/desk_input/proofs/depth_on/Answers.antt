-- `desk_input::depth_on`: each arm is a law of `Found`. Assumes nothing.
use Rattle.std.proofs.Common.{sym, ◌∙◌, arith}
use Rattle.desk_input.proofs.Found.{short-first, no_K, no_space, no_digit, no_feed, a-digit}
use Rattle.desk_input.proofs.depth_on.Goals as goal

pub returns-in-75 : goal.returns-in-75
returns-in-75 c =
    let d = c.if-is_ascii_digit.ensures.cases in
    c.new.ensures ∙ rw c.from.ensures (sym (a-digit _ c.in-75.len_at_least (omega arith) (omega arith) d.0 d.1 (omega arith)))

pub returns-in_default : goal.returns-in_default
returns-in_default c = sym (short-first _ c.in_default.len_below)

pub returns-in_default-2 : goal.returns-in_default-2
returns-in_default-2 c = sym (no_digit _ c.in-75.len_at_least c.if-is_ascii_digit.ensures.cases)

pub returns-in_default-3 : goal.returns-in_default-3
returns-in_default-3 c = sym (no_feed _ c.in_default.len_at_least (λ e. omega arith))

pub returns-in_default-4 : goal.returns-in_default-4
returns-in_default-4 c = sym (no_space _ c.in_default.len_at_least (λ e. omega arith))

pub returns-in_default-5 : goal.returns-in_default-5
returns-in_default-5 c = sym (no_K _ c.in_default.len_at_least (λ e. omega arith))
