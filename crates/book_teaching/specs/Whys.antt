-- The rows of 01's table that teaching and withdrawing can answer: by sound books, orders within limits, the counts that are touched, the words
-- used and what has an entry. That each answers exactly by its rows is shown in proofs/Whys.antt. Assumes nothing: these are definitions.
use Rattle.std.specs.Prelude.{ℕ, ◌≤◌, ◌<◌, ◌≡◌, true, false, List, length}
use Rattle.book.specs.Decoding.{Refused}
use Rattle.figures.specs.Numbers.{done, no_room, too_many, not_taught, not_agreeing}
use Rattle.section.specs.Entries.{has}
use Rattle.order.specs.Trees.{Tree, words}
use Rattle.order.specs.Causes.{Cause}
use Rattle.order.specs.Fits.{IsOrder}
use Rattle.book.specs.Book.{Book, used}
use Rattle.book.specs.Sound.{IsBook, WhyForm}
use Rattle.book.specs.Taught.{taught}
use Rattle.book.specs.Opening.{Outcome, leave, write_book}
use Rattle.book_teaching.specs.Calls.{withdrawn}
use Rattle.book_teaching.specs.Conditions.{WouldPass, PartMissing}

-- Why teaching answers and leaves the words as o has them: "Teach: 4, 5, 1, 2, 7, 6."
pub data WhyTaught (ws os : List ℕ) (o : Outcome) : Type 0 where
  -- 4 and 5, by the book alone
  teach_no_book : (n : ℕ) → o ≡ leave ws n → WhyForm ws (Refused n) → WhyTaught ws os o
  -- 1 and 2, by the order
  teach_no_order : (b : Book) (n : ℕ) → o ≡ leave ws n → IsBook ws b → Cause os n → (n ≡ done → ⊥) → WhyTaught ws os o
  -- 7: "live teachings or a touched count would pass 65,535"
  would_pass : (b : Book) (t : Tree) → o ≡ leave ws too_many → IsBook ws b → IsOrder os t → WouldPass t b → WhyTaught ws os o
  -- 6: "the result needs more words than the book slice has"
  needs_more : (b : Book) (t : Tree) → o ≡ leave ws no_room → IsBook ws b → IsOrder os t → (WouldPass t b → ⊥) → length ws < used (taught 1 t b)
      → WhyTaught ws os o
  -- 0: "done", and "Success writes the book" with one teaching more
  book_taught : (b : Book) (t : Tree) → o ≡ write_book ws (taught 1 t b) → IsBook ws b → IsOrder os t → (WouldPass t b → ⊥)
      → used (taught 1 t b) ≤ length ws → WhyTaught ws os o

-- Why withdrawing answers and leaves the words as o has them: "Withdraw: 4, 5, 1, 2, 8, 9."
pub data WhyWithdrawn (ws os : List ℕ) (o : Outcome) : Type 0 where
  -- 4 and 5, by the book alone
  withdraw_no_book : (n : ℕ) → o ≡ leave ws n → WhyForm ws (Refused n) → WhyWithdrawn ws os o
  -- 1 and 2, by the order
  withdraw_no_order : (b : Book) (n : ℕ) → o ≡ leave ws n → IsBook ws b → Cause os n → (n ≡ done → ⊥) → WhyWithdrawn ws os o
  -- 8: "order has no entry in T"
  no_entry : (b : Book) (t : Tree) → o ≡ leave ws not_taught → IsBook ws b → IsOrder os t → has (words t) b.T ≡ false → WhyWithdrawn ws os o
  -- 9: "withdraw: a part of the order is missing from R, L or P"
  part_missing : (b : Book) (t : Tree) → o ≡ leave ws not_agreeing → IsBook ws b → IsOrder os t → has (words t) b.T ≡ true → PartMissing t b
      → WhyWithdrawn ws os o
  -- 0: "done", and "Success writes the book" with one teaching less
  book_withdrawn : (b : Book) (t : Tree) → o ≡ write_book ws (withdrawn t b) → IsBook ws b → IsOrder os t → has (words t) b.T ≡ true
      → (PartMissing t b → ⊥) → WhyWithdrawn ws os o
