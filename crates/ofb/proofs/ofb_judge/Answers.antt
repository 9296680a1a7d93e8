-- `ofb_judge` meets its contract: the line is 64 at most, and what the book expected fits too. Assumes nothing.
use Prim.Native.Nat.{◌^◌}
use mathlib.Core.Path.{ap, sym, subst}
use native.Mathlib.Omega.{arith}
use Rattle.section.specs.Near.{Small}
use Rattle.book_judging.specs.declared.Judgement.{Judgement}
use Rattle.book_judging.proofs.Figures.{judge_line-most, expected-fits}
use Rattle.ofb.proofs.ofb_judge.Goals as goal

pub told_judged-requires : goal.told_judged-requires
told_judged-requires c =
    let a = c.args in (
      omega (arith, ap (λ (j : Judgement). j.answer.line) c.judge-judged.ensures, judge_line-most a.book.now a.order.now),
      subst (λ (j : Judgement). Small (2 ^ 16) j.near) (sym c.judge-judged.ensures) (expected-fits a.book.now a.order.now),
    )
