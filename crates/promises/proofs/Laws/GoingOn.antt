-- A book after any calls of a run can be stored, and a run that starts by reading that file goes on from the same book with the same orders. Assumes
-- nothing.
use Prim.Native.Nat.{ℕ}
use mathlib.Core.Path.{◌≡◌, sym, ap, ◌∙◌}
use mathlib.Core.List.{List}
use lib.ListN.{length}
use Rattle.figures.specs.Numbers.{done}
use Rattle.figures.specs.Answers.{answered}
use Rattle.section.specs.Entries.{count_of}
use Rattle.order.specs.Answers.{write}
use Rattle.book.specs.Book.{Book}
use Rattle.book.specs.Opening.{outcome}
use Rattle.book_filing.specs.Files.{file_of, write_file_of, read_file_of}
use Rattle.promises.specs.Remaining.{Call, after, remaining, times_of, SameOrders, booked}
use Rattle.promises.specs.Starts.{reading, taught_first, start_k}
use Rattle.promises.specs.Agreement.{Agrees}
use Rattle.promises.specs.Whys.{IsFile}
use Rattle.promises.proofs.Laws.Orders.{booked-k, count-times}
use Rattle.promises.proofs.Laws.Agreement.{sound-agreeing}
use Rattle.promises.proofs.Laws.Remaining.{Begun, after_kept, after-long, after-book, after-agrees}
use Rattle.promises.proofs.Laws.FileWhys.{agrees-filed}
use Rattle.promises.proofs.Laws.FileTrips.{own_file, file_back}
use Rattle.promises.proofs.Laws.Starting.{first-orders, first-k}
use Rattle.promises.proofs.Wordings.{first-as_counted}

-- Among the orders of a book's file that count as taught first each stands as often as the book's T counts it.
pub first-counts : (file : List ℕ) (b : Book) → IsFile file b → (os : List ℕ) → times_of os (taught_first (reading file)) ≡ count_of os b.T
first-counts file b f os = ap (times_of os) (first-orders file b f) ∙ first-as_counted os b.T

module _ (slice : List ℕ) (k : ℕ) (first : List (List ℕ)) (ws : List ℕ) (begun : Begun slice k first ws) (cs : List Call) where
  -- The orders that remain.
  abbrev orders : List (List ℕ)
  orders = remaining cs ws first

  -- Their book.
  abbrev own : Book
  own = booked k orders

  -- It agrees with itself.
  own_agrees : Agrees own
  own_agrees = (sound-agreeing own (after-book slice k first ws begun cs).sound).0 (after-agrees slice k first ws begun cs)

  -- Its file is a file of it.
  its_file : IsFile (file_of own) own
  its_file = own_file (after cs ws) own (after-book slice k first ws begun cs)

  -- It is written as its file, or answered by 11 where the output is too short.
  pub stores : (out : List ℕ) → write_file_of (after cs ws) out ≡ write (file_of own) out
  stores out = agrees-filed (after cs ws) out own (after-book slice k first ws begun cs) own_agrees

  -- That file is read back into any slice of the same length to the same words,
  pub goes_back : (other : List ℕ) → length other ≡ length slice → read_file_of (file_of own) other ≡ outcome (answered done) (after cs ws)
  goes_back other same = file_back (after cs ws) own (after-book slice k first ws begun cs) own_agrees other (same ∙ sym (after-long slice k first ws begun cs))

  -- at the same k,
  pub same-k : start_k (reading (file_of own)) ≡ k
  same-k = first-k (file_of own) own its_file ∙ booked-k k orders (after_kept slice k first ws begun cs).limits

  -- and the orders that count as taught first then are those that remained.
  pub same_first : SameOrders (taught_first (reading (file_of own))) orders
  same_first os = first-counts (file_of own) own its_file os ∙ count-times k os orders (after_kept slice k first ws begun cs).limits
