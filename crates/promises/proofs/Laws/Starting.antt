-- What a run starts with: an opened book is the book of no orders, and the book of a file that was read is the book of the orders that its T counts,
-- each as often as it counts. Assumes nothing.
use Rattle.std.specs.Prelude.{Option}
use Prim.Native.Nat.{ℕ, ◌≤◌}
use mathlib.Core.Path.{◌≡◌, sym, ap, ◌∙◌}
use mathlib.Core.Bool.{true}
use mathlib.Core.List.{List, []}
use native.Mathlib.Omega.{arith}
use lib.ListN.{length}
use Rattle.figures.specs.Limits.{head_words, most_book_words, least_k, greatest_k}
use Rattle.figures.specs.Numbers.{done}
use Rattle.figures.specs.Answers.{answered}
use Rattle.book.specs.Book.{Book, used, live, lay, in_form}
use Rattle.book.specs.Decoding.{by_book}
use Rattle.book.specs.Sound.{SoundBook}
use Rattle.book.specs.Taught.{agreeing}
use Rattle.book.specs.Opening.{Outcome, open_of}
use Rattle.book.proofs.Meaning.{read_back}
use Rattle.book.proofs.Openings.{opened as opening-is, number_is}
use Rattle.book.proofs.Sound.{sound-form}
use Rattle.book.proofs.Agreeing.{form-orders, agreeing-is}
use Rattle.book_filing.specs.Files.{read_file_of}
use Rattle.promises.specs.Remaining.{orders_in, booked}
use Rattle.promises.specs.Starts.{Start, opening, reading, started_by, taught_first, start_k}
use Rattle.promises.specs.Agreement.{Agrees}
use Rattle.promises.specs.Whys.{IsFile, WhyOpened, slice_short, slice_long, k_below, k_above, opened}
use Rattle.promises.specs.Whys.{BookSized, WhyRestored, restore_shorter, restore_longer, few_bytes, wrong_mark, wrong_version, no_used_words, restore_disagrees, restore_no_room, restores}
use Rattle.promises.proofs.Laws.Orders.{Orders, booked-live}
use Rattle.promises.proofs.Laws.Counted.{counted-orders, booked-counted}
use Rattle.promises.proofs.Laws.Agreement.{sound-agreeing}
use Rattle.promises.proofs.Laws.Whys.{opened-why}
use Rattle.promises.proofs.Laws.FileWhys.{file_rest, restored_why}
use Rattle.promises.proofs.Laws.Remaining.{Begun, opened-begun}

-- ---- opening

-- Opening an allowed k in a slice of a size for a book is done.
pub opens : (slice : List ℕ) (k : ℕ) → head_words ≤ length slice → length slice ≤ most_book_words → least_k ≤ k → k ≤ greatest_k → (open_of slice k).answer ≡ answered done
opens slice k long short least greatest = ap (λ (o : Outcome). o.answer) (opening-is slice k long short least greatest)

-- ---- a file that was read

module _ (file : List ℕ) (b : Book) (f : IsFile file b) where
  -- The orders of a book's file that count as taught first are those that its T counts.
  pub first-orders : taught_first (reading file) ≡ orders_in b.T
  unfolding by_book
  first-orders = ap (λ (o : Option Book). by_book o [] (λ c. orders_in c.T)) (file_rest file b f)

  -- The run's k is the book's.
  pub first-k : start_k (reading file) ≡ b.k
  unfolding by_book
  first-k = ap (λ (o : Option Book). by_book o 0 (λ c. c.k)) (file_rest file b f)

-- ---- a book that agrees with itself

module _ (slice : List ℕ) (b : Book) (z : BookSized slice) (sound : SoundBook b) (g : Agrees b) (room : used b ≤ length slice) where
  -- The book is in form.
  form : in_form b ≡ true
  form = sound-form b sound

  -- It passes the test of agreeing.
  passes : agreeing b ≡ true
  passes = (sound-agreeing b sound).1 g

  -- Its orders are within limits.
  limits : Orders (orders_in b.T)
  limits = counted-orders b.T (form-orders b form)

  -- It is the book of its orders.
  own_orders : booked b.k (orders_in b.T) ≡ b
  own_orders = booked-counted b.k b.T (form-orders b form) ∙ sym (agreeing-is b form passes)

  -- In the slice it is what a run may start with.
  pub book-begun : Begun slice b.k (orders_in b.T) (lay (length slice) b)
  book-begun = record {
    long = z.0;
    short = z.1;
    least = sound.least;
    greatest = sound.greatest;
    kept = record {
      limits = limits;
      few = omega (arith, sym (booked-live b.k (orders_in b.T) limits), ap live own_orders, sound.few);
      room = omega (arith, ap used own_orders);
      laid = ap (lay (length slice)) (sym own_orders);
    };
    agrees = (b, read_back (length slice) b form, passes);
  }

-- So is what reading its file leaves.
file_begun : (file slice : List ℕ) (b : Book) → BookSized slice → (f : IsFile file b) → Agrees b → used b ≤ length slice → (read_file_of file slice).words ≡ lay (length slice) b
    → Begun slice (start_k (reading file)) (taught_first (reading file)) (read_file_of file slice).words
file_begun file slice b z f g room e = rw (e, first-orders file b f, first-k file b f) (book-begun slice b z f.sound g room)

-- ---- either

-- A run starts as it should wherever its start was done.
pub begins : (start : Start) (slice : List ℕ) → (started_by start slice).answer.number ≡ done → Begun slice (start_k start) (taught_first start) (started_by start slice).words
begins (opening k) slice d = go (opened-why slice k)
  where
    -- By the row of opening.
    go : WhyOpened slice k (open_of slice k) → Begun slice k [] (open_of slice k).words
    go (slice_short e h) = absurd (omega (arith, d, number_is e))
    go (slice_long e h) = absurd (omega (arith, d, number_is e))
    go (k_below e l s h) = absurd (omega (arith, d, number_is e))
    go (k_above e l s h) = absurd (omega (arith, d, number_is e))
    go (opened e l s a z) = opened-begun slice k l s a z
begins (reading file) slice d = go (restored_why file slice)
  where
    -- By the row of reading.
    go : WhyRestored file slice (read_file_of file slice) → Begun slice (start_k (reading file)) (taught_first (reading file)) (read_file_of file slice).words
    go (restore_shorter e h) = absurd (omega (arith, d, number_is e))
    go (restore_longer e h) = absurd (omega (arith, d, number_is e))
    go (few_bytes e z h) = absurd (omega (arith, d, number_is e))
    go (wrong_mark e z l x) = absurd (omega (arith, d, number_is e))
    go (wrong_version high low rest e z f x) = absurd (omega (arith, d, number_is e))
    go (no_used_words high low rest e z f v x) = absurd (omega (arith, d, number_is e))
    go (restore_disagrees b e z f x) = absurd (omega (arith, d, number_is e))
    go (restore_no_room b e z f g h) = absurd (omega (arith, d, number_is e))
    go (restores b e z f g h) = file_begun file slice b z f g h (ap (λ (o : Outcome). o.words) e)
