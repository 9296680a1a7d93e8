-- `book_form::head_right`: each test decides one part of what is asked of the head. Assumes nothing.
use Rattle.std.proofs.Common.{sym, ◌∙◌, eqb-true}
use Rattle.std.proofs.lemmas.Bool.{eqb-false}
use Rattle.book.proofs.Runs.{head_live, head_used, head_zeros}
use Rattle.book_form.proofs.head_right.Goals as goal
use Rattle.book_form.proofs.head_right.Goals.{then-live-from, else-live-from}

pub returns-then-used-from : goal.returns-then-used-from
returns-then-used-from c =
    c.zeros_from.ensures
    ∙ elim c.if-live-from.branch [
      | then-live-from w ↦ sym (head_zeros _ _ _ (w.if-live-from.true ∙ c.from.ensures) (eqb-true _ _ (sym w.value-is ∙ c.if-used-from.true) ∙ w.from-then-live-from.ensures))
      | else-live-from w ↦ absurd (w.if-live-from.false (eqb-true _ _ (sym w.value-is ∙ c.if-used-from.true)))
    ]

pub returns-else-used-from : goal.returns-else-used-from
returns-else-used-from c =
    c.if-used-from.false
    ∙ elim c.if-live-from.branch [
      | then-live-from w ↦ sym (head_used _ _ _ (w.if-live-from.true ∙ c.from.ensures) (λ e. eqb-false _ _ (sym w.value-is ∙ c.if-used-from.false) (e ∙ sym w.from-then-live-from.ensures)))
      | else-live-from w ↦ sym (head_live _ _ _ (λ e. w.if-live-from.false (e ∙ sym c.from.ensures)))
    ]
