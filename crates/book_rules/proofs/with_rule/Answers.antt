-- `book_rules::with_rule`: a rule that would not change what is named leaves it, fitting or not. Assumes nothing.
use Rattle.std.proofs.Common.{sym, ◌∙◌}
use Rattle.words.specs.Base.{when◌then◌else◌}
use Rattle.book_choosing.proofs.Turns.{named_stays, fits-or_not}
use Rattle.book_rules.proofs.with_rule.Goals as goal
use Rattle.book_rules.proofs.with_rule.Goals.{else-would_change-via-then-would_change+else-has_cut, else-would_change-via-else-would_change}

pub returns-then-has_cut : goal.returns-then-has_cut
unfolding when◌then◌else◌
returns-then-has_cut c = rw (sym c.if-has_cut.ensures) c.also.ensures

pub returns-else-would_change : goal.returns-else-would_change
unfolding when◌then◌else◌
returns-else-would_change c =
    elim c.else-would_change.branch [
      | else-would_change-via-then-would_change+else-has_cut w ↦ rw (sym w.has_cut.ensures ∙ w.if-has_cut.false)
      | else-would_change-via-else-would_change w ↦ fits-or_not _ _ _ (named_stays _ _ (sym c.would_change.ensures ∙ w.if-would_change.false))
    ]
