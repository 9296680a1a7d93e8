-- `ofb_teach` meets its contract: the line is 0. Assumes nothing.
use Rattle.book_teaching.proofs.Conditions.{teach-line}
use Rattle.ofb.proofs.Handing.{outcome_fits}
use Rattle.ofb.proofs.ofb_teach.Goals as goal

pub told-requires : goal.told-requires
told-requires c = outcome_fits c.teach-answer.ensures (teach-line _ _)
