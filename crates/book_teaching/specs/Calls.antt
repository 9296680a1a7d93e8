-- What `teach` and `withdraw` answer, and what the book is then, for all inputs (01, "The book" and "Numbers the desk hears"). Assumes
-- nothing: these are definitions.
use Rattle.std.specs.Prelude.{ℕ, Bool, true, not, List, [], ◌∷◌, leb, length}
use Rattle.words.specs.Base.{◌and◌, when◌then◌else◌}
use Rattle.figures.specs.Numbers.{no_room, too_many, not_taught, not_agreeing}
use Rattle.section.specs.Entries.{Entry, has, lower}
use Rattle.book_change.specs.Counts.{within_counts}
use Rattle.order.specs.Trees.{Tree, words}
use Rattle.order.specs.Reading.{by_order, order_of}
use Rattle.order.specs.Parts.{top, low_parts, middle_parts}
use Rattle.book.specs.Book.{Book, used}
use Rattle.book.specs.Decoding.{on_book}
use Rattle.book.specs.Taught.{taught}
use Rattle.book.specs.Opening.{Outcome, leave, write_book}

-- 4, 5, 1 and 2, and then what a call does with the book and the order.
unfoldable pub on_order : List ℕ → List ℕ → (Book → Tree → Outcome) → Outcome
on_order ws os f = on_book (leave ws) ws (λ b. by_order (order_of os) (leave ws) (f b))

-- ---- teaching

-- What teaching does, once the book and the order are in form: 7 where "live teachings or a touched count would pass 65,535", 6 where "the
-- result needs more words than the book slice has".
unfoldable pub teach_tree : List ℕ → Book → Tree → Outcome
teach_tree ws b t =
    let c : Book = taught 1 t b in
    when not (within_counts c) then leave ws too_many else
    when not (leb (used c) (length ws)) then leave ws no_room else
    write_book ws c

-- "Teach: 4, 5, 1, 2, 7, 6."
unfoldable pub teach_of : List ℕ → List ℕ → Outcome
teach_of ws os = on_order ws os (teach_tree ws)

-- ---- withdrawing

-- One less of each tree.
unfoldable pub lower_each : List Tree → List Entry → List Entry
lower_each [] es = es
lower_each (t ∷ ts) es = lower (words t) (lower_each ts es)

-- "Withdrawing lowers each by one and takes out an entry that comes to 0."
unfoldable pub withdrawn : Tree → Book → Book
withdrawn t b = record {
  k = b.k;
  T = lower (words t) b.T;
  R = lower (words (top b.k t)) b.R;
  L = lower_each (low_parts b.k t) b.L;
  P = lower_each (middle_parts b.k t) b.P;
}

-- Each tree has an entry.
unfoldable pub has_each : List Tree → List Entry → Bool
has_each [] es = true
has_each (t ∷ ts) es = has (words t) es and has_each ts es

-- No "part of the order is missing from R, L or P".
unfoldable pub has_parts : Tree → Book → Bool
has_parts t b =
    has (words (top b.k t)) b.R and has_each (low_parts b.k t) b.L and has_each (middle_parts b.k t) b.P

-- What withdrawing does, once the book and the order are in form: 8 where the "order has no entry in T", 9 where a part is missing.
unfoldable pub withdraw_tree : List ℕ → Book → Tree → Outcome
withdraw_tree ws b t =
    when not (has (words t) b.T) then leave ws not_taught else
    when not (has_parts t b) then leave ws not_agreeing else
    write_book ws (withdrawn t b)

-- "Withdraw: 4, 5, 1, 2, 8, 9."
unfoldable pub withdraw_of : List ℕ → List ℕ → Outcome
withdraw_of ws os = on_order ws os (withdraw_tree ws)
