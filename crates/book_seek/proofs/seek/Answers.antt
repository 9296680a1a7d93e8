-- `book_seek::seek` meets its contract: the part that is told is that of the line's subtree. Assumes nothing.
use mathlib.Core.Path.{ap, sym, ◌∙◌}
use native.Mathlib.Omega.{arith}
use Prim.Native.Nat.{ℕ, ◌*◌}
use Rattle.order.proofs.LineCuts.{line-short}
use Rattle.order.proofs.LineSpans.{spans-room}
use Rattle.order.proofs.Spots.{line_at, passed-short}
use Rattle.book_judging.proofs.Seekings.{end-within, seeks_low, seeks_middle}
use Rattle.book_seek.proofs.seek.Goals as goal

pub is_low-requires : goal.is_low-requires
is_low-requires c =
    let over = c.args.lines.now.order.gone_over in
    omega (arith, (line_at _ _ over.sound c.requires.line_in_bounds).lies, spans-room _ _ over)

pub overflow_mul-result : goal.overflow_mul-result
overflow_mul-result c =
    let over = c.args.lines.now.order.gone_over in
    omega (arith, (line_at _ _ over.sound c.requires.line_in_bounds).lies, passed-short _ over.sound)

pub line_end-requires : goal.line_end-requires
line_end-requires c =
    let over = c.args.lines.now.order.gone_over in
    omega (arith, (line_at _ _ over.sound c.requires.line_in_bounds).lies, spans-room _ _ over)

pub overflow_mul-result-then-is_low : goal.overflow_mul-result-then-is_low
overflow_mul-result-then-is_low c =
    let over = c.args.lines.now.order.gone_over in
    omega (arith, c.line_end.ensures, end-within _ _ _ _ _ c.requires.holds over (line_at _ _ over.sound c.requires.line_in_bounds), passed-short _ over.sound)

pub returns-then-is_low : goal.returns-then-is_low
returns-then-is_low c =
    let over = c.args.lines.now.order.gone_over in
    let line = line_at _ _ over.sound c.requires.line_in_bounds in
    seeks_low _ _ _ _ _ c.requires.holds over line _ _ _ (sym c.is_low.ensures ∙ c.if-is_low.true) (ap (λ (n : ℕ). n * 2) c.line_end.ensures) c.from.ensures

pub put_cut-requires-clause-d_in_bounds : goal.put_cut-requires-clause-d_in_bounds
put_cut-requires-clause-d_in_bounds c =
    omega (arith, line-short _ _ c.of_middles.result c.args.lines.now.order.gone_over.sound c.requires.line_in_bounds, c.requires.most_words_in_bounds)

pub returns : goal.returns
returns c =
    let over = c.args.lines.now.order.gone_over in
    let line = line_at _ _ over.sound c.requires.line_in_bounds in
    seeks_middle _ _ _ _ _ c.requires.holds over line _ _ c.of_middles.result c.args.cut.now _ (sym c.is_low.ensures ∙ c.if-is_low.false) c.from-2.ensures c.of_middles.ensures c.put_cut.ensures.came c.put_cut.ensures.wrote
