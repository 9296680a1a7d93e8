-- `book_judge::try_judge` meets its contract, by the form of the book and the order. Assumes nothing.
use mathlib.Core.List.{List}
use mathlib.Core.Path.{ap, sym, ◌∙◌}
use native.Mathlib.Omega.{arith}
use Prim.Native.Nat.{ℕ}
use Rattle.std.proofs.Common.{Bor}
use Rattle.order.proofs.Spots.{passed-short}
use Rattle.figures.proofs.SameRefusal.{not_done}
use Rattle.order_check.proofs.Told.{err-is}
use Rattle.book.proofs.Holding.{holds}
use Rattle.book_judging.specs.Expecting.{judgement_of}
use Rattle.book_judging.specs.Seeking.{plainly_of}
use Rattle.book_judging.proofs.Judgements.{judge_refused, judgement_unheld}
use Rattle.book_judge.proofs.try_judge.Goals as goal

pub returns-in_err-places : goal.returns-in_err-places
returns-in_err-places c = rw (err-is _ _ c.from_residual.ensures.1) (sym (judgement_unheld _ _ _ (sym c.in_err-places.ensures)))

pub returns-in_err-order : goal.returns-in_err-order
returns-in_err-order c =
    let came = c.in_err-order.ensures.came in
    let refused = judge_refused _ _ _ (holds _ _ (sym c.in_ok-places.ensures)) (λ e. not_done _ (came ∙ e)) in
    rw (err-is _ _ c.from_residual-in_err-order.ensures.1) (ap plainly_of came ∙ sym refused)

pub level_lines-lines-requires : goal.level_lines-lines-requires
level_lines-lines-requires c = omega (arith, passed-short _ c.in_ok-order.order.gone_over.sound)

pub judge_order-requires : goal.judge_order-requires
judge_order-requires c = holds _ _ (sym c.in_ok-places.ensures)

pub returns : goal.returns
returns c =
    let judged = rw c.level_lines-lines.ensures.same at c.judge_order.ensures in
    judged ∙ ap (λ (words : Bor (List ℕ)). judgement_of c.args.book.now words.now) c.in_ok-order.ensures.same
