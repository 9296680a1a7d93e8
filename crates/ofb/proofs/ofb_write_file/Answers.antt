-- `ofb_write_file` meets its contract: the figures fit. Assumes nothing.
use mathlib.Core.Path.{sym, subst}
use Rattle.ofb.proofs.Handing.{Fits, filed-fits}
use Rattle.ofb.proofs.ofb_write_file.Goals as goal

pub told_written-requires : goal.told_written-requires
told_written-requires c = subst Fits (sym c.write-answer.ensures) (filed-fits _ _)
