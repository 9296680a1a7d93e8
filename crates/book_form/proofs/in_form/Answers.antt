-- `book_form::in_form`: the size decides, and then the sections. Assumes nothing.
use Rattle.std.proofs.Common.{sym, ◌∙◌}
use Rattle.book.proofs.Heads.{sized-by, size-told, form-unsized}
use Rattle.book_form.proofs.in_form.Goals as goal

pub returns-then-not-is_book_size : goal.returns-then-not-is_book_size
returns-then-not-is_book_size c = sym (form-unsized _ (sized-by _ _ (sym c.is_book_size.ensures ∙ c.if-not-is_book_size.true)))

pub sections-requires : goal.sections-requires
sections-requires c = size-told _ (sym c.is_book_size.ensures ∙ c.if-not-is_book_size.false)
