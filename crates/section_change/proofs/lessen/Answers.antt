-- `section_change::lessen` meets its contract: by whether the entry counts at most 1. Assumes nothing.
use Rattle.std.proofs.Common.{ℕ, sym, ap, ◌∙◌}
use mathlib.Core.Path.{ap₂}
use Rattle.section_change.proofs.Lowering.{lessened-words_out, lessened-words_left, lessened-by_out, lessened-by_left}
use Rattle.section_change.proofs.lessen.Goals as goal

pub returns-then-book-at-le1 : goal.returns-then-book-at-le1
returns-then-book-at-le1 c =
    let x = c.args in
    let b = c.bring_down-end in (
      b.ensures.0 ∙ sym (lessened-words_out x.to x.kept x.at x.book.now c.if-book-at-le1.true),
      ap₂ (λ (m n : ℕ). record { to = m; kept = n; next = n; out = 1 }) b.ensures.1 c.past-next.ensures ∙ sym (lessened-by_out x.to x.kept x.at x.book.now c.if-book-at-le1.true),
    )

pub returns : goal.returns
returns c =
    let x = c.args in (
      sym (lessened-words_left x.to x.kept x.at x.book.now c.if-book-at-le1.false),
      ap (λ (n : ℕ). record { to = x.to; kept = x.kept; next = n; out = 0 }) c.past-next.ensures ∙ sym (lessened-by_left x.to x.kept x.at x.book.now c.if-book-at-le1.false),
    )
