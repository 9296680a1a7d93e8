-- `ofb_choose` meets its contract: the line is judge's. Assumes nothing.
use mathlib.Core.Path.{ap}
use native.Mathlib.Omega.{arith}
use Rattle.book_choosing.specs.declared.Chosen.{Chosen}
use Rattle.book_choosing.proofs.Choices.{choose_line-most}
use Rattle.ofb.proofs.ofb_choose.Goals as goal

pub told_image-requires : goal.told_image-requires
told_image-requires c =
    let a = c.args in
    omega (arith, ap (λ (h : Chosen). h.line) c.choose-chosen.ensures, choose_line-most a.book.now a.order.now a.rules.now)
