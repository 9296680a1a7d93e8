-- `ofb_read_text` meets its contract: the figures fit. Assumes nothing.
use mathlib.Core.Path.{sym, subst}
use Rattle.ofb.proofs.Handing.{Fits, read_fits}
use Rattle.ofb.proofs.ofb_read_text.Goals as goal

pub told_written-requires : goal.told_written-requires
told_written-requires c = subst Fits (sym c.read-answer.ensures) (read_fits _ _)
