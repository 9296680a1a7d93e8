-- `book_file::is_marked`, by its two tests. Assumes nothing.
use Rattle.std.proofs.Common.{◌∙◌, take, refl}
use borrow.Author.Tests.{le-leb, lt-leb}
use Rattle.words.specs.Base.{◌and◌}
use Rattle.words.proofs.Tests.{pointwise-same}
use Rattle.book_filing.specs.Files.{mark, mark_bytes, is_marked}
use Rattle.book_file.proofs.is_marked.Goals as goal

pub returns-then-file-ge-FRONT_BYTES : goal.returns-then-file-ge-FRONT_BYTES
unfolding is_marked ◌and◌
returns-then-file-ge-FRONT_BYTES c = c.starts_with.ensures.value ∙ rw (le-leb _ _ c.if-file-ge-FRONT_BYTES.true) (pointwise-same mark (take mark_bytes c.args.file.now))

pub returns-else-file-ge-FRONT_BYTES : goal.returns-else-file-ge-FRONT_BYTES
unfolding is_marked ◌and◌
returns-else-file-ge-FRONT_BYTES c = rw (lt-leb _ _ c.if-file-ge-FRONT_BYTES.false) refl
