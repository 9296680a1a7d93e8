-- `ofb_open` meets its contract: the line is 0. Assumes nothing.
use Rattle.book.proofs.Openings.{open_line}
use Rattle.ofb.proofs.Handing.{outcome_fits}
use Rattle.ofb.proofs.ofb_open.Goals as goal

pub told-requires : goal.told-requires
told-requires c = outcome_fits c.before.before.open-answer.ensures (open_line _ _)
