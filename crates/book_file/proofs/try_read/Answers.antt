-- `book_file::try_read`: each test that led to a return decides a case of `read_file_of`. Assumes nothing.
use Rattle.std.proofs.Common.{List, ℕ, refl, sym, ap, arith, ◌∙◌}
use borrow.Author.Tests.{eq-eqb, ne_eqb}
use Rattle.words.proofs.Shifts.{tail_all}
use Rattle.book.proofs.Heads.{sized-by}
use Rattle.book_filing.specs.Files.{front_bytes, read_rest_of}
use Rattle.book_filing.proofs.Reading.{marked-long, read-unsized, read-unmarked, read-other, read-rest}
use Rattle.book_file.proofs.try_read.Goals as goal

pub returns-then-not-is_book_size : goal.returns-then-not-is_book_size
returns-then-not-is_book_size c =
    let x = c.args in
    sym (read-unsized x.file.now x.book.now _ refl (sized-by _ _ (sym c.is_book_size.ensures ∙ c.if-not-is_book_size.true)))

pub returns-then-not-is_marked : goal.returns-then-not-is_marked
returns-then-not-is_marked c =
    let x = c.args in
    let right = sized-by _ _ (sym c.is_book_size.ensures ∙ c.if-not-is_book_size.false) in
    sym (read-unmarked x.file.now x.book.now _ refl right (sym c.is_marked.ensures ∙ c.if-not-is_marked.true))

pub word_at-requires : goal.word_at-requires
word_at-requires c = omega (arith, marked-long c.args.file.now (sym c.is_marked.ensures ∙ c.if-not-is_marked.false))

pub returns-then-word_at-ne-VERSION : goal.returns-then-word_at-ne-VERSION
returns-then-word_at-ne-VERSION c =
    let x = c.args in
    let right = sized-by _ _ (sym c.is_book_size.ensures ∙ c.if-not-is_book_size.false) in
    let marked = sym c.is_marked.ensures ∙ c.if-not-is_marked.false in
    sym (read-other x.file.now x.book.now _ refl right marked (ne_eqb _ _ (λ e. c.if-word_at-ne-VERSION.true (c.word_at.ensures ∙ e))))

pub returns : goal.returns
returns c =
    let x = c.args in
    let right = sized-by _ _ (sym c.is_book_size.ensures ∙ c.if-not-is_book_size.false) in
    let marked = sym c.is_marked.ensures ∙ c.if-not-is_marked.false in
    c.read_rest.ensures
    ∙ ap (λ (bytes : List ℕ). read_rest_of bytes x.book.now) (tail_all front_bytes x.file.now (marked-long x.file.now marked))
    ∙ sym (read-rest x.file.now x.book.now right marked (eq-eqb _ _ (sym c.word_at.ensures ∙ c.if-word_at-ne-VERSION.false)))
