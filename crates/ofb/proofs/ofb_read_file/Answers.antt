-- `ofb_read_file` meets its contract: the line is 0. Assumes nothing.
use Rattle.book_filing.proofs.Restoring.{restored_line}
use Rattle.ofb.proofs.Handing.{outcome_fits}
use Rattle.ofb.proofs.ofb_read_file.Goals as goal

pub told-requires : goal.told-requires
told-requires c = outcome_fits c.read-answer.ensures (restored_line _ _)
