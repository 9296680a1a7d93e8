-- `book_check::both_agree` meets its contract: the second book decides where the first agrees. Assumes nothing.
use mathlib.Core.Path.{sym, ◌∙◌}
use Rattle.words.specs.Base.{◌and◌}
use Rattle.words.proofs.Tests.{fails_left}
use Rattle.book_check.proofs.both_agree.Goals as goal

pub returns-then-not-agrees : goal.returns-then-not-agrees
returns-then-not-agrees c = sym (fails_left _ _ (sym c.agrees.ensures ∙ c.if-not-agrees.true))

pub returns : goal.returns
unfolding ◌and◌
returns c = rw (sym c.agrees.ensures ∙ c.if-not-agrees.false) c.agrees-2.ensures
