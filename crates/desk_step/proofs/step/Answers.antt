-- `desk_step::step`: nothing, or the line of the call in front. Assumes nothing.
use Rattle.std.proofs.Common.{refl, sym, ◌∙◌}
use Rattle.desk_step.proofs.Runs.{letter-long}
use Rattle.desk_step.proofs.Steps.{step-short, step_other, step-made, end-inside}
use Rattle.desk_step.proofs.step.Goals as goal

pub returns-then-out-lt-REPLY_ROOM : goal.returns-then-out-lt-REPLY_ROOM
returns-then-out-lt-REPLY_ROOM c = step-short _ _ _ c.if-out-lt-REPLY_ROOM.true

pub returns-in_default : goal.returns-in_default
returns-in_default c = step_other _ _ _ c.if-out-lt-REPLY_ROOM.false (sym c.letter_at.ensures ∙ c.in_default.is)

pub form_end-end-requires : goal.form_end-end-requires
form_end-end-requires c = letter-long _ _ (sym c.letter_at.ensures ∙ c.in-Some.is)

pub slice_bounds-call-end : goal.slice_bounds-call-end
slice_bounds-call-end c = end-inside _ _ _ (sym c.letter_at.ensures ∙ c.in-Some.is) c.form_end-end.ensures

pub returns : goal.returns
returns c =
    let p = c.put_reply-count.ensures in
    step-made _ _ _ c.if-out-lt-REPLY_ROOM.false _ _ _ _ _ _ _ _ _ (sym c.letter_at.ensures ∙ c.in-Some.is) c.form_end-end.ensures refl
    c.call-answer.ensures c.used_words-used.ensures c.byte.ensures p.took p.wrote
