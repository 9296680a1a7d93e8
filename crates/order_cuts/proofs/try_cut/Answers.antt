-- `order_cuts::try_cut` meets its contract, by where the line stands. Assumes nothing.
use mathlib.Core.Path.{refl, ap, sym, ◌∙◌}
use mathlib.Core.List.{List}
use Prim.Native.Nat.{ℕ}
use Rattle.std.proofs.Common.{Bor}
use Rattle.order.specs.Standing.{cut_of}
use Rattle.order.specs.Answers.{write, cut_into_of}
use Rattle.order.proofs.Lines.{placed}
use Rattle.order.proofs.LineSpans.{found-line}
use Rattle.order.proofs.Answers.{cut-refused, cut_lacks, cut_has}
use Rattle.order_check.proofs.Told.{err-is, stopped_by}
use Rattle.order_cuts.proofs.try_cut.Goals as goal

pub returns-in_err-passed : goal.returns-in_err-passed
returns-in_err-passed c =
    let stop = stopped_by c.args.order.now _ c.in_err-passed.ensures.came in
    rw (err-is _ _ c.from_residual.ensures.1) (sym (cut-refused _ _ _ stop _ _))

pub cut_line-requires : goal.cut_line-requires
cut_line-requires c = (found-line _ _ _ _ c.in_ok-passed.passed.gone_over c.in-Some.ensures).within

pub returns-in-Some : goal.returns-in-Some
returns-in-Some c =
    let a = c.args in
    let l = found-line _ _ _ _ c.in_ok-passed.passed.gone_over c.in-Some.ensures in
    c.cut_line.ensures
    ∙ ap (λ (at : ℕ). write (cut_of c.in_ok-passed.passed.words.now at a.d) a.out.now) l.even
    ∙ sym (cut_has _ _ _ l.has _ _)
    ∙ ap (λ (words : Bor (List ℕ)). cut_into_of words.now a.line a.d a.out.now) c.in_ok-passed.ensures.same

pub returns-in-None : goal.returns-in-None
returns-in-None c =
    let a = c.args in
    sym (cut_lacks _ _ (placed _ _ _ _ c.in-None.ensures refl) _ _) ∙ ap (λ (words : Bor (List ℕ)). cut_into_of words.now a.line a.d a.out.now) c.in_ok-passed.ensures.same
