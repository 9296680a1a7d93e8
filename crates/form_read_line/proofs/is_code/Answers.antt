-- `form_read_line::is_code` meets its contract: each test that led to a return decides one part of `is_code`. Assumes nothing.
use Rattle.std.proofs.Common.{sym, ◌∙◌}
use borrow.Author.Tests.{eq-eqb, ne_eqb}
use Rattle.words.specs.Base.{◌and◌}
use Rattle.form.specs.Reading.{is_code}
use Rattle.form_read_line.proofs.is_code.Goals as goal

pub returns-then-space-ne32 : goal.returns-then-space-ne32
unfolding is_code ◌and◌
returns-then-space-ne32 c = rw (ne_eqb _ _ c.if-space-ne32.true)

pub returns-then-not-is_digit : goal.returns-then-not-is_digit
unfolding is_code ◌and◌
returns-then-not-is_digit c = rw (eq-eqb _ _ c.if-space-ne32.false, sym c.is_digit.ensures ∙ c.if-not-is_digit.true)

pub returns-then-not-is_digit-2 : goal.returns-then-not-is_digit-2
unfolding is_code ◌and◌
returns-then-not-is_digit-2 c = rw (eq-eqb _ _ c.if-space-ne32.false, sym c.is_digit.ensures ∙ c.if-not-is_digit.false, sym c.is_digit-2.ensures ∙ c.if-not-is_digit-2.true)

pub returns-then-not-is_digit-3 : goal.returns-then-not-is_digit-3
unfolding is_code ◌and◌
returns-then-not-is_digit-3 c =
    rw (eq-eqb _ _ c.if-space-ne32.false, sym c.is_digit.ensures ∙ c.if-not-is_digit.false, sym c.is_digit-2.ensures ∙ c.if-not-is_digit-2.false, sym c.is_digit-3.ensures ∙ c.if-not-is_digit-3.true)

pub returns-then-not-is_digit-4 : goal.returns-then-not-is_digit-4
unfolding is_code ◌and◌
returns-then-not-is_digit-4 c =
    rw (eq-eqb _ _ c.if-space-ne32.false, sym c.is_digit.ensures ∙ c.if-not-is_digit.false, sym c.is_digit-2.ensures ∙ c.if-not-is_digit-2.false, sym c.is_digit-3.ensures ∙ c.if-not-is_digit-3.false, sym c.is_digit-4.ensures ∙ c.if-not-is_digit-4.true)

pub returns : goal.returns
unfolding is_code ◌and◌
returns c =
    rw (eq-eqb _ _ c.if-space-ne32.false, sym c.is_digit.ensures ∙ c.if-not-is_digit.false, sym c.is_digit-2.ensures ∙ c.if-not-is_digit-2.false, sym c.is_digit-3.ensures ∙ c.if-not-is_digit-3.false, sym c.is_digit-4.ensures ∙ c.if-not-is_digit-4.false)
