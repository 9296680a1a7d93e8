-- `desk_input::form_end`: at a letter line the count ends, and elsewhere one byte is passed. Assumes nothing.
use Rattle.std.proofs.Common.{sym, ap, ◌∙◌, arith}
use Rattle.std.specs.Option.{is_some}
use Rattle.desk_input.proofs.Found.{size-end, pass_inside, pass_other, stops}
use Rattle.desk_input.proofs.form_end.Goals as goal
use Rattle.desk_input.proofs.form_end.Goals.{else-starts-via-then-starts+else-is_some, else-starts-via-else-starts}

pub returns-then-is_some : goal.returns-then-is_some
returns-then-is_some c =
    sym (c.loop-at.invariant ∙ stops _ _ _ c.if-starts.true (ap is_some (sym c.letter_at.ensures) ∙ sym c.if-is_some.ensures))

pub loop-at-preserved : goal.loop-at-preserved
loop-at-preserved c =
    let h = c.loop-at-test.true in
    c.loop-at.invariant
    ∙ elim c.else-starts.branch [
      | else-starts-via-then-starts+else-is_some w ↦ pass_other _ _ _ w.if-starts.true h (ap is_some (sym w.letter_at.ensures) ∙ sym w.if-is_some.ensures)
      | else-starts-via-else-starts w ↦ pass_inside _ _ _ w.if-starts.false h
    ]

pub returns : goal.returns
returns c = let z = size-end c.args.text.now c.loop-at.at c.loop-at.starts (omega arith) in omega (arith, c.loop-at.invariant)
