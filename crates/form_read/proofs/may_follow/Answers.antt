-- `form_read::may_follow` meets its contract, on line 1 and later. Assumes nothing.
use Rattle.form.proofs.Steps.{follows-first, follows-none, follows-later}
use Rattle.form_read.proofs.may_follow.Goals as goal

pub returns-then-greatest-eq0 : goal.returns-then-greatest-eq0
returns-then-greatest-eq0 c = follows-first _ _ c.if-greatest-eq0.true

pub returns-then-level-lt1 : goal.returns-then-level-lt1
returns-then-level-lt1 c = follows-none _ _ c.if-greatest-eq0.false c.if-level-lt1.true

pub returns : goal.returns
returns c = follows-later _ _ c.if-greatest-eq0.false c.if-level-lt1.false
