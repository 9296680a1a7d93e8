-- `book_file::put_front`: the mark is copied, and the version's two bytes are stored behind it. Assumes nothing.
use Rattle.std.proofs.Common.{ℕ, List, ◌++◌, drop, set, ap, ◌∙◌}
use Rattle.book_filing.proofs.Writing.{front-stores}
use Rattle.book_file.proofs.put_front.Goals as goal

pub returns : goal.returns
returns c =
    c.put_word.ensures
    ∙ ap (λ (l : List ℕ). set (set (l ++ drop 3 c.args.out.now) 3 0) 4 1) c.copy_from_slice.ensures.after
    ∙ front-stores c.args.out.now c.requires
