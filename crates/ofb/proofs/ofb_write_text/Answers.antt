-- `ofb_write_text` meets its contract: the figures fit. Assumes nothing.
use mathlib.Core.Path.{sym, subst}
use Rattle.ofb.proofs.Handing.{Fits, print_fits}
use Rattle.ofb.proofs.ofb_write_text.Goals as goal

pub told_written-requires : goal.told_written-requires
told_written-requires c = subst Fits (sym c.write-answer.ensures) (print_fits _ _)
