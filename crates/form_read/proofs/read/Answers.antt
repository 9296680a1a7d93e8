-- `form_read::read` meets its contract, by what the lines were read as. Assumes nothing.
use Rattle.form.proofs.Answers.{refused-text, short-out, read_out}
use Rattle.form_read.proofs.read.Goals as goal

pub returns-then-answer-ne-DONE : goal.returns-then-answer-ne-DONE
returns-then-answer-ne-DONE c = refused-text _ _ _ _ c.lines-answer.ensures c.if-answer-ne-DONE.true

pub returns-then-out-count : goal.returns-then-out-count
returns-then-out-count c = short-out _ _ _ _ c.lines-answer.ensures c.if-answer-ne-DONE.false _ c.if-out-count.true c.wrote.ensures

pub returns : goal.returns
returns c = read_out _ _ _ _ c.lines-answer.ensures c.if-answer-ne-DONE.false _ c.if-out-count.false c.copy.ensures
