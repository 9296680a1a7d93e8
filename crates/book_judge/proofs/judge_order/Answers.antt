-- `book_judge::judge_order` meets its contract, by the tests that it makes in turn. Assumes nothing.
use mathlib.Core.Path.{ap, sym, ◌∙◌}
use Rattle.figures.specs.Numbers.{top_unknown}
use Rattle.section.specs.declared.Neighbours.{Neighbours}
use Rattle.book_judging.proofs.Judgements.{judge_line, judge_top, judge_passes}
use Rattle.book_judge.proofs.judge_order.Goals as goal

pub returns-then-judged-ne0 : goal.returns-then-judged-ne0
returns-then-judged-ne0 c =
    let judged = c.line_to_fix-judged.ensures in
    judged.is ∙ sym (judge_line _ _ _ c.requires c.args.lines.now.order.gone_over.sound (λ z. c.if-judged-ne0.true (judged.at ∙ z)))

pub returns-then-near : goal.returns-then-near
returns-then-near c =
    let near = c.top_near-near.ensures in
    c.plainly.ensures
    ∙ sym (judge_passes _ _ _ c.requires c.args.lines.now.order.gone_over.sound (sym c.line_to_fix-judged.ensures.at ∙ c.if-judged-ne0.false) (sym (ap (λ (r : Neighbours). r.there) near) ∙ c.if-near.true))

pub returns : goal.returns
returns c =
    let near = c.top_near-near.ensures in
    ap (λ (r : Neighbours). record { answer = record { number = top_unknown; line = 1 }; near = r }) near
    ∙ sym (judge_top _ _ _ c.requires c.args.lines.now.order.gone_over.sound (sym c.line_to_fix-judged.ensures.at ∙ c.if-judged-ne0.false) (sym (ap (λ (r : Neighbours). r.there) near) ∙ c.if-near.false))
