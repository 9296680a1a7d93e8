-- `book_file::try_write`: the check refuses, or the file of the book has room, or not. Assumes nothing.
use Rattle.std.proofs.Common.{refl, sym, ap, arith, ◌∙◌}
use Rattle.std.proofs.lemmas.Result.{err_from_is_err_and}
use Rattle.figures.specs.declared.Answer.{Answer}
use Rattle.figures.proofs.SameRefusal.{not_done}
use Rattle.order.proofs.Writing.{no_output_room, has_room}
use Rattle.book.proofs.Holding.{holds}
use Rattle.book_filing.proofs.Writing.{file_unheld, checked_agreed, agreed_file, refused-file, telling, file_over}
use Rattle.book_file.proofs.try_write.Goals as goal

pub returns-in_err-places : goal.returns-in_err-places
returns-in_err-places c =
    let p = err_from_is_err_and c.from_residual.result c.from_residual.ensures.1 in
    rw (p.1, p.2) (sym (file_unheld _ _ _ (sym c.in_err-places.ensures)))

pub check_sections-checked-requires : goal.check_sections-checked-requires
check_sections-checked-requires c = holds _ _ (sym c.in_ok-places.ensures)

pub returns-in_err-checked : goal.returns-in_err-checked
returns-in_err-checked c =
    let p = err_from_is_err_and c.from_residual-in_err-checked.result c.from_residual-in_err-checked.ensures.1 in
    rw (p.1, p.2) (refused-file _ _ _ _ (ap (λ (x : Answer). x.number) c.in_err-checked.ensures) (not_done _) refl)

pub bounds-book-1 : goal.bounds-book-1
bounds-book-1 c =
    let a = checked_agreed _ (sym (ap (λ (x : Answer). x.number) c.in_ok-checked.ensures)) in
    let t = telling _ _ a.is_book in
    t.long

pub returns-then-out-count : goal.returns-then-out-count
returns-then-out-count c =
    let a = checked_agreed _ (sym (ap (λ (x : Answer). x.number) c.in_ok-checked.ensures)) in
    let t = telling _ _ a.is_book in
    no_output_room _ _ _ refl (omega (arith, t.size, c.if-out-count.true)) ∙ sym (agreed_file _ _ a)

pub slice_bounds-put_words-end : goal.slice_bounds-put_words-end
slice_bounds-put_words-end c =
    let a = checked_agreed _ (sym (ap (λ (x : Answer). x.number) c.in_ok-checked.ensures)) in
    let t = telling _ _ a.is_book in
    t.fits

pub returns : goal.returns
returns c =
    let a = checked_agreed _ (sym (ap (λ (x : Answer). x.number) c.in_ok-checked.ensures)) in
    let t = telling _ _ a.is_book in
    has_room _ _ _ _ _ refl t.size c.if-out-count.false (file_over _ _ _ _ _ t c.put_front.ensures c.put_words.ensures) ∙ sym (agreed_file _ _ a)
