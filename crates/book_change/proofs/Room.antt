-- Whether there is room for another book, and that it can then be added. Assumes nothing.
use Prim.Native.Nat.{ℕ, ◌+◌, ◌-◌, ◌≤◌, ◌<◌}
use mathlib.Core.Path.{◌≡◌, sym, ap, ap₂, ◌∙◌}
use mathlib.Core.Bool.{true, false}
use mathlib.Core.List.{List}
use native.Mathlib.Omega.{arith}
use lib.Dec.{leb}
use lib.ListN.{length}
use borrow.Author.Tests.{le-leb, lt-leb}
use Rattle.book.specs.Book.{Book, used}
use Rattle.book.specs.Decoding.{book_in}
use Rattle.book.specs.Holding.{Holds}
use Rattle.book.specs.declared.Places.{Places}
use Rattle.book.proofs.Sections.{form-sorted}
use Rattle.book.proofs.Holding.{uses, used-room}
use Rattle.book_change.specs.Counts.{within_counts}
use Rattle.book_change.specs.Changing.{changed_book, weighed_book, ReadyAll, LacksEach}
use Rattle.book_change.specs.declared.BookWeighed.{BookWeighed}
use Rattle.book_change.specs.declared.Change.TheVariants.{Teach}
use Rattle.book_change.proofs.Changed.{used-changed, ready_add}

module _ (ws vs : List ℕ) (p q : Places) (h : Holds ws p) (g : Holds vs q) where
  -- The book with the other added.
  abbrev sum : Book
  sum = changed_book Teach (book_in vs) (book_in ws)

  module _ (w : BookWeighed) (we : w ≡ weighed_book (book_in vs) (book_in ws)) where
    -- What the sum uses.
    needs_words : used sum ≡ p.used + w.lacking
    needs_words =
        used-changed (book_in vs) (book_in ws) (form-sorted (book_in vs) g.form) (form-sorted (book_in ws) h.form)
        ∙ ap₂ ◌+◌ (sym (uses ws p h)) (sym (ap (λ (x : BookWeighed). x.lacking) we))

    -- Where more words are lacking than there is room for, the sum does not fit.
    pub no_room-for : length ws - p.used < w.lacking → false ≡ leb (used sum) (length ws)
    no_room-for x = sym (lt-leb (used sum) (length ws) (omega (arith, needs_words)))

    module _ (x : w.lacking ≤ length ws - p.used) where
      -- Otherwise it fits.
      fits : used sum ≤ length ws
      fits = omega (arith, needs_words, used-room ws p h)

      -- The test says so.
      pub room_for : true ≡ leb (used sum) (length ws)
      room_for = sym (le-leb (used sum) (length ws) fits)

      -- It can be added.
      pub can_add : (book_in vs).k ≡ (book_in ws).k → within_counts sum ≡ true → ReadyAll (length ws) Teach (book_in vs) (book_in ws)
      can_add k within = ready_add (length ws) (book_in vs) (book_in ws) g.form h.form k within fits

      -- What is lacking is what was weighed.
      pub lacks_so : LacksEach Teach w.each (book_in vs) (book_in ws)
      lacks_so = ap (λ (y : BookWeighed). y.each) we
