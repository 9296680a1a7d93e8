-- A book whose counts are within 65,535: what 7 asks of a book to which orders are added (01, "Numbers the desk hears"). Assumes nothing: this is a
-- definition.
use Rattle.std.specs.Prelude.{Bool, leb}
use Rattle.words.specs.Base.{◌and◌}
use Rattle.figures.specs.Limits.{greatest_count}
use Rattle.section_change.specs.Editing.{fitting}
use Rattle.book.specs.Book.{Book, live}

-- Neither "live teachings" nor a count passes 65,535.
unfoldable pub within_counts : Book → Bool
within_counts b =
    leb (live b) greatest_count and fitting b.T and fitting b.R and fitting b.L and fitting b.P
