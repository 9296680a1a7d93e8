-- `desk_input::letter_at`: each arm is a law of `Found`. Assumes nothing.
use Rattle.std.proofs.Common.{sym, ◌∙◌, arith, drop}
use Rattle.std.proofs.lemmas.List.{take_rest}
use Rattle.desk_input.proofs.Found.{too_short, second-other, second-feed}
use Rattle.desk_input.proofs.letter_at.Goals as goal

pub returns-in-10 : goal.returns-in-10
returns-in-10 c =
    let e = take_rest c.args.text.now c.args.at in
    c.letter_of.ensures ∙ rw e (sym (second-feed (drop c.args.at c.args.text.now) (rw e at c.in-10.len_at_least) (rw (← e) (omega arith))))

pub returns-in_default : goal.returns-in_default
returns-in_default c = sym (too_short _ (rw (take_rest c.args.text.now c.args.at) at c.in_default.len_below))

pub returns-in_default-2 : goal.returns-in_default-2
returns-in_default-2 c =
    let e = take_rest c.args.text.now c.args.at in
    sym (second-other _ (rw e at c.in_default.len_at_least) (rw (← e) (λ f. omega arith)))
