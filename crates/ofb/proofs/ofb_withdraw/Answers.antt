-- `ofb_withdraw` meets its contract: the line is 0. Assumes nothing.
use Rattle.book_teaching.proofs.Conditions.{withdraw-line}
use Rattle.ofb.proofs.Handing.{outcome_fits}
use Rattle.ofb.proofs.ofb_withdraw.Goals as goal

pub told-requires : goal.told-requires
told-requires c = outcome_fits c.withdraw-answer.ensures (withdraw-line _ _)
