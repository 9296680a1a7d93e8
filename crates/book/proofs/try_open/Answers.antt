-- `book::try_open` meets its contract: each test that led to a return decides a case of `open_of`, and the words written are those of the opened
-- book. Assumes nothing.
use Rattle.std.proofs.Common.{length, refl, sym, ap, arith, ◌∙◌}
use lib.ListN.{length-set, length-replicate}
use Rattle.book.proofs.Depths.{allowed, outside}
use Rattle.book.proofs.Heads.{sized-by, size-told}
use Rattle.book.proofs.Openings.{open_unsized, no_depth, opens}
use Rattle.book.proofs.try_open.Goals as goal

pub returns-then-not-is_book_size : goal.returns-then-not-is_book_size
returns-then-not-is_book_size c =
    sym (open_unsized _ _ _ refl (sized-by _ _ (sym c.is_book_size.ensures ∙ c.if-not-is_book_size.true)))

pub returns-in_default : goal.returns-in_default
returns-in_default c =
    sym (no_depth _ _ _ refl (sized-by _ _ (sym c.is_book_size.ensures ∙ c.if-not-is_book_size.false)) (outside _ _ c.new.ensures c.in_default.is))

pub bounds-book-0 : goal.bounds-book-0
bounds-book-0 c =
    let long = (size-told _ (sym c.is_book_size.ensures ∙ c.if-not-is_book_size.false)).0 in
    omega (arith, long, simp length-replicate at (ap length c.clear.ensures))

pub bounds-book-1 : goal.bounds-book-1
bounds-book-1 c =
    let long = (size-told _ (sym c.is_book_size.ensures ∙ c.if-not-is_book_size.false)).0 in
    simp length-set (omega (arith, long, simp length-replicate at (ap length c.clear.ensures)))

pub returns : goal.returns
returns c =
    let right = sym c.is_book_size.ensures ∙ c.if-not-is_book_size.false in
    let d = allowed _ _ c.new.ensures _ c.in-Some.is in
    sym (opens _ _ _ refl (sized-by _ _ right) d.1 (size-told _ right).0 _ _ c.clear.ensures (c.value.ensures ∙ d.0))
