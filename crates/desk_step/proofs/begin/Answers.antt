-- `desk_step::begin`: nothing, the line of a fault, or the opening's line. Assumes nothing.
use Rattle.std.proofs.Common.{sym, ◌∙◌}
use Rattle.desk_step.proofs.Steps.{begin_short, begin_fault, begin_opens}
use Rattle.desk_step.proofs.begin.Goals as goal

pub returns-then-out-lt-REPLY_ROOM : goal.returns-then-out-lt-REPLY_ROOM
returns-then-out-lt-REPLY_ROOM c = begin_short _ _ _ c.if-out-lt-REPLY_ROOM.true

pub returns-in-Err : goal.returns-in-Err
returns-in-Err c =
    let p = c.put_reply-count.ensures in
    begin_fault _ _ _ c.if-out-lt-REPLY_ROOM.false _ _ _ (sym c.in-Err.is ∙ c.opening.ensures) p.took p.wrote

pub returns-in-Ok : goal.returns-in-Ok
returns-in-Ok c =
    let p = c.put_reply-count-in-Ok.ensures in
    begin_opens _ _ _ c.if-out-lt-REPLY_ROOM.false _ _ _ _ _ _ (sym c.in-Ok.is ∙ c.opening.ensures) c.open-answer.ensures c.used_words-words.ensures p.took p.wrote
