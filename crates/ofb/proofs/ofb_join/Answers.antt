-- `ofb_join` meets its contract: the line is 0. Assumes nothing.
use Rattle.book_joining.proofs.Joins.{join-line}
use Rattle.ofb.proofs.Handing.{outcome_fits}
use Rattle.ofb.proofs.ofb_join.Goals as goal

pub told-requires : goal.told-requires
told-requires c = outcome_fits c.join-answer.ensures (join-line _ _)
