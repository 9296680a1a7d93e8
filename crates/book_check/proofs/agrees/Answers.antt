-- `book_check::agrees`: no section of a book has more entries than the scratch that is taken for it. Assumes nothing.
use Rattle.std.proofs.Common.{ℕ, List, arith}
use Rattle.book.specs.Decoding.{book_in}
use Rattle.book.specs.Holding.{Holds}
use Rattle.book.specs.declared.Places.{Places}
use Rattle.book.proofs.Meaning.{used-fits}
use Rattle.book.proofs.Holding.{uses}
use Rattle.book_check.specs.Agreeing.{small_entries, most_entries, Roomy}
use Rattle.book_check.proofs.Counting.{few-entries}
use Rattle.book_check.proofs.agrees.Goals as goal

-- The most entries are enough for any book in form.
any-roomy : (ws : List ℕ) (p : Places) → Holds ws p → Roomy ws most_entries
any-roomy ws p h = few-entries ws p h most_entries (omega (arith, uses ws p h, used-fits ws (book_in ws) h.laid, h.short))

pub agrees_in-requires-clause-roomy : goal.agrees_in-requires-clause-roomy
agrees_in-requires-clause-roomy c = few-entries _ _ c.requires small_entries (omega (arith, c.if-places-le-SMALL_BOOK.true))

pub agrees_in-requires-else-places-le-SMALL_BOOK-clause-roomy : goal.agrees_in-requires-else-places-le-SMALL_BOOK-clause-roomy
agrees_in-requires-else-places-le-SMALL_BOOK-clause-roomy c = any-roomy _ _ c.requires
