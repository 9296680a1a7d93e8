-- Demand 3: "Open an empty book of an allowed k and size, then teach and withdraw in any sequence, refused calls included, with nothing else writing to
-- it. Its parts and counts are exactly those of the orders that remain. It is, in every word, the one you get from an empty book of the same k and size
-- by teaching just the orders that remain, each as often as it remains, in whichever order; and none of those teachings is refused." And 01: "A run that
-- starts by reading a file counts that file's orders as taught first." And 02, of joining: "From then on demand 3 counts the joined orders as taught."
--
-- A run starts with an opened book or a file that is read (`Start`, specs/Starts.antt). A call teaches, withdraws or joins, with any words as its order or as
-- the other book; `after` is the slice after a list of calls, and `remaining` the orders that remain of those taught first and of the calls by the calls' own
-- answers, those of a book that was joined among them (specs/Remaining.antt). What joining does to any two books, and to three, stands at the end. Assumes
-- nothing.
use Prim.Native.Nat.{ℕ, ◌≤◌, ◌<◌}
use mathlib.Core.Path.{◌≡◌, refl, ap}
use mathlib.Core.List.{List, [], ◌∷◌, ◌++◌}
use lib.ListN.{length}
use Rattle.words.specs.Base.{◌∈◌, ◌exactly_when◌}
use Rattle.figures.specs.Limits.{head_words, most_book_words, least_k, greatest_k, greatest_count}
use Rattle.figures.specs.Numbers.{done, no_room, too_many, not_taught}
use Rattle.figures.specs.Answers.{answered}
use Rattle.figures.specs.declared.Answer.{Answer}
use Rattle.section.specs.Entries.{count_of}
use Rattle.order.specs.Trees.{Tree}
use Rattle.order.specs.Fits.{IsOrder}
use Rattle.order.specs.Answers.{write}
use Rattle.book.specs.Book.{Book, used}
use Rattle.book.specs.Sound.{IsBook}
use Rattle.book.specs.Opening.{outcome, open_of}
use Rattle.book_judging.specs.Judging.{judge_of}
use Rattle.book_teaching.specs.Calls.{teach_of, withdraw_of}
use Rattle.book_joining.specs.Joining.{CountsAdded, join_of}
use Rattle.book_joining.proofs.Joins.{either_way, regrouped, regrouped_back, join-empty}
use Rattle.book.specs.Checking.{agree_of}
use Rattle.book_filing.specs.Files.{file_of, write_file_of, read_file_of}
use Rattle.promises.specs.Remaining.{Call, after_by, after, orders_in, remaining_by, remaining, times_of, SameOrders, taught_all, NoneRefused, booked, ExactlyThese, MadeOf}
use Rattle.promises.specs.Starts.{Start, opening, reading, started_by, taught_first, start_k}
use Rattle.promises.specs.Agreement.{Agrees}
use Rattle.promises.specs.Whys.{IsFile}
use Rattle.promises.proofs.Laws.Remaining.{after_kept, after-long, holds_exactly, taught-alone}
use Rattle.promises.proofs.Laws.Starting.{opens, begins, first-k}
use Rattle.promises.proofs.Laws.GoingOn.{first-counts, stores, goes_back, same-k, same_first}
use Rattle.promises.proofs.Laws.Passing.{passes-made, among-passes}
use Rattle.promises.proofs.Laws.Conditions.{teaching_7, teaching_6, teaching_0, withdrawing_8, withdrawing_0, joining_7, joining_6, joining_0}
use Rattle.promises.proofs.Laws.Agreement.{sound-agreeing}
use Rattle.promises.proofs.Laws.Joining.{leaves-sum, joins-as_taught}
use Rattle.promises.proofs.Laws.Checks.{grown_agrees}
use Rattle.promises.proofs.Demand2.{passing-line}

-- "Open an empty book of an allowed k and size": it is done.
pub opening-done : (slice : List ℕ) (k : ℕ) → head_words ≤ length slice → length slice ≤ most_book_words → least_k ≤ k → k ≤ greatest_k → (open_of slice k).answer ≡ answered done
opening-done = opens

-- ---- any start

-- A start that was done, with an opened book or a file that was read,
module _ (start : Start) (slice : List ℕ) (started : (started_by start slice).answer.number ≡ done) where
  -- at this k: the one opened at, or the file's,
  abbrev pub k : ℕ
  k = start_k start

  -- "then teach and withdraw in any sequence, refused calls included, with nothing else writing to it", and join other books.
  module _ (cs : List Call) where
    -- The slice then.
    abbrev pub book : List ℕ
    book = after cs (started_by start slice).words

    -- The orders that remain, each as often as it remains: of an opened book those of the calls, and of a file that was read its orders too.
    abbrev pub orders : List (List ℕ)
    orders = remaining cs (started_by start slice).words (taught_first start)

    -- "Its parts and counts are exactly those of the orders that remain": by document 000's r, l and p, as demand 2 has them. So it is in form, of
    -- this k, and word 2 is how many orders remain.
    pub parts-and_counts : ExactlyThese k orders book
    parts-and_counts = holds_exactly slice k (taught_first start) (started_by start slice).words (begins start slice started) cs

    -- The slice keeps its length, so that `exactly_one` (proofs/Uniqueness.antt) leaves no word open.
    pub same_length : length book ≡ length slice
    same_length = after-long slice k (taught_first start) (started_by start slice).words (begins start slice started) cs

    -- "It is, in every word, the one you get from an empty book of the same k and size by teaching just the orders that remain, each as often as it
    -- remains, in whichever order; and none of those teachings is refused": in any slice of the same length, whatever stood in it before it was opened.
    pub in_every_word : (other : List ℕ) → length other ≡ length slice → (qs : List (List ℕ)) → SameOrders qs orders
        → NoneRefused qs (open_of other k).words × (taught_all qs (open_of other k).words ≡ book)
    in_every_word = taught-alone slice k (taught_first start) (started_by start slice).words (begins start slice started) cs

    -- It "agrees with itself": `book_check::check` answers 0.
    pub agrees-with_itself : agree_of book ≡ answered done
    agrees-with_itself = grown_agrees slice k (taught_first start) (started_by start slice).words (begins start slice started) cs

    -- Demands 2 and 3 together: "A new order made only of parts the book has seen passes" and no other does. `book_judge::judge` answers 0 exactly if the
    -- order's r is the r of an order that remains, each of its l an l of one, and each of its p a p of one.
    pub passes-by_remaining : (os : List ℕ) (t : Tree) → IsOrder os t → ((judge_of book os).number ≡ done) exactly_when MadeOf k orders t
    passes-by_remaining os t = passes-made k orders book os t parts-and_counts

    -- Every order that remains is an order within limits, and passes, with line 0.
    pub remaining-passes : (os : List ℕ) → os ∈ orders → (t : Tree) × IsOrder os t × (judge_of book os ≡ answered done)
    remaining-passes os m =
        let f = (after_kept slice k (taught_first start) (started_by start slice).words (begins start slice started) cs).limits os m in
        (f.tree, f.is_order, passing-line book os (among-passes k orders book os f.tree parts-and_counts m f.is_order))

    -- Not all of this could be met by refusing everything: an order within limits is refused by 7 exactly if 65,535 orders remain,
    pub refused-by_7 : (os : List ℕ) (t : Tree) → IsOrder os t → ((teach_of book os).answer.number ≡ too_many) exactly_when (length orders ≡ greatest_count)
    refused-by_7 = teaching_7 slice k (taught_first start) (started_by start slice).words (begins start slice started) cs

    -- by 6 exactly if fewer remain and the book of these with this one more needs more words than the slice has,
    pub refused-by_6 : (os : List ℕ) (t : Tree) → IsOrder os t
        → ((teach_of book os).answer.number ≡ no_room) exactly_when ((length orders < greatest_count) × (length slice < used (booked k (os ∷ orders))))
    refused-by_6 = teaching_6 slice k (taught_first start) (started_by start slice).words (begins start slice started) cs

    -- and is taught exactly if fewer remain and that book has room.
    pub taught-exactly : (os : List ℕ) (t : Tree) → IsOrder os t
        → ((teach_of book os).answer.number ≡ done) exactly_when ((length orders < greatest_count) × (used (booked k (os ∷ orders)) ≤ length slice))
    taught-exactly = teaching_0 slice k (taught_first start) (started_by start slice).words (begins start slice started) cs

    -- A withdrawal of an order within limits is refused by 8, "order has no entry in T", exactly if no such order remains,
    pub refused-by_8 : (os : List ℕ) (t : Tree) → IsOrder os t → ((withdraw_of book os).answer.number ≡ not_taught) exactly_when (times_of os orders ≡ 0)
    refused-by_8 = withdrawing_8 slice k (taught_first start) (started_by start slice).words (begins start slice started) cs

    -- and is done exactly if such an order remains.
    pub withdrawn-exactly : (os : List ℕ) (t : Tree) → IsOrder os t → ((withdraw_of book os).answer.number ≡ done) exactly_when (1 ≤ times_of os orders)
    withdrawn-exactly = withdrawing_0 slice k (taught_first start) (started_by start slice).words (begins start slice started) cs

    -- A book of this k that agrees with itself is refused in joining by 7 exactly if more than 65,535 orders remain with its own,
    pub joined-by_7 : (vs : List ℕ) (c : Book) → IsBook vs c → Agrees c → c.k ≡ k
        → ((join_of book vs).answer.number ≡ too_many) exactly_when (greatest_count < length (orders_in c.T ++ orders))
    joined-by_7 = joining_7 slice k (taught_first start) (started_by start slice).words (begins start slice started) cs

    -- by 6 exactly if no more remain and the book of all these orders needs more words than the slice has,
    pub joined-by_6 : (vs : List ℕ) (c : Book) → IsBook vs c → Agrees c → c.k ≡ k
        → ((join_of book vs).answer.number ≡ no_room) exactly_when
        ((length (orders_in c.T ++ orders) ≤ greatest_count) × (length slice < used (booked k (orders_in c.T ++ orders))))
    joined-by_6 = joining_6 slice k (taught_first start) (started_by start slice).words (begins start slice started) cs

    -- and is joined exactly if no more remain and that book has room.
    pub joined-exactly : (vs : List ℕ) (c : Book) → IsBook vs c → Agrees c → c.k ≡ k
        → ((join_of book vs).answer.number ≡ done) exactly_when
        ((length (orders_in c.T ++ orders) ≤ greatest_count) × (used (booked k (orders_in c.T ++ orders)) ≤ length slice))
    joined-exactly = joining_0 slice k (taught_first start) (started_by start slice).words (begins start slice started) cs

    -- The book can be stored: `book_file::write` writes its file, or answers 11 where the output is too short.
    pub can_be_stored : (out : List ℕ) → write_file_of book out ≡ write (file_of (booked k orders)) out
    can_be_stored = stores slice k (taught_first start) (started_by start slice).words (begins start slice started) cs

    -- A run that starts by reading that file, in any slice of the same length, goes on from the same words at the same k, with the orders that remain
    -- as those taught first.
    pub goes_on : (other : List ℕ) → length other ≡ length slice → let file = file_of (booked k orders) in
        (started_by (reading file) other ≡ outcome (answered done) book) × (start_k (reading file) ≡ k) × SameOrders (taught_first (reading file)) orders
    goes_on other same =
        let g = begins start slice started in
        let ws : List ℕ = (started_by start slice).words in
        (goes_back slice k (taught_first start) ws g cs other same, same-k slice k (taught_first start) ws g cs, same_first slice k (taught_first start) ws g cs)

-- ---- an opened book

-- The demand as it was put: of an empty book of an allowed k and size, after any calls on it.
module _ (slice : List ℕ) (k : ℕ) (long : head_words ≤ length slice) (short : length slice ≤ most_book_words) (least : least_k ≤ k) (greatest : k ≤ greatest_k) (cs : List Call) where
  -- The opened book.
  abbrev opened : List ℕ
  opened = (open_of slice k).words

  -- Opening it is done.
  opens-by_0 : (open_of slice k).answer.number ≡ done
  opens-by_0 = ap (λ (a : Answer). a.number) (opening-done slice k long short least greatest)

  -- "Its parts and counts are exactly those of the orders that remain. It is, in every word, the one you get from an empty book of the same k and size
  -- by teaching just the orders that remain, each as often as it remains, in whichever order; and none of those teachings is refused."
  pub from_an_empty-book : ExactlyThese k (remaining cs opened []) (after cs opened)
      × ((other : List ℕ) → length other ≡ length slice → (qs : List (List ℕ)) → SameOrders qs (remaining cs opened [])
      → NoneRefused qs (open_of other k).words × (taught_all qs (open_of other k).words ≡ after cs opened))
  from_an_empty-book = (parts-and_counts (opening k) slice opens-by_0 cs, in_every_word (opening k) slice opens-by_0 cs)

-- ---- a file that was read

-- The orders of a book's file that count as taught first are those that its T counts, each as often as it counts, and the run's k is the book's.
pub counted-first : (file : List ℕ) (b : Book) → IsFile file b → (start_k (reading file) ≡ b.k) × ((os : List ℕ) → times_of os (taught_first (reading file)) ≡ count_of os b.T)
counted-first file b f = (first-k file b f, first-counts file b f)

-- "A run that starts by reading a file counts that file's orders as taught first": a slice into which a file was read is in every word the one in which
-- a book of the file's k was opened and the orders that its T counts were taught, each as often as it counts, and none of these teachings is refused.
-- So every later call answers and writes the same on both.
pub read-as_taught : (file slice : List ℕ) → (read_file_of file slice).answer.number ≡ done → (other : List ℕ) → length other ≡ length slice
    → NoneRefused (taught_first (reading file)) (open_of other (start_k (reading file))).words
    × (taught_all (taught_first (reading file)) (open_of other (start_k (reading file))).words ≡ (read_file_of file slice).words)
unfolding after_by remaining_by
read-as_taught file slice started other same = in_every_word (reading file) slice started [] other same (taught_first (reading file)) (λ os. refl)

-- ---- books joined

-- Of any two slices that are joined with 0, whatever was done with them before:
module _ (ws vs : List ℕ) (is_done : (join_of ws vs).answer.number ≡ done) (b c : Book) (first : IsBook ws b) (second : IsBook vs c) where
  -- "counts added": the first is then a book of its k in which every key of T, R, L and P counts what it counted in both.
  pub join-adds : (sum : Book) × IsBook (join_of ws vs).words sum × CountsAdded b c sum
  join-adds = leaves-sum ws vs is_done b c first second

  -- "the first becomes the book taught the live orders of both": in every word the one in which a book of that k and length was opened and the orders that the
  -- two T's count were taught, each as often as they count it, in whichever order; and none of these teachings is refused.
  pub join-as_taught : (slice : List ℕ) → length slice ≡ length ws → (qs : List (List ℕ)) → SameOrders qs (orders_in c.T ++ orders_in b.T)
      → NoneRefused qs (open_of slice b.k).words × (taught_all qs (open_of slice b.k).words ≡ (join_of ws vs).words)
  join-as_taught = joins-as_taught ws vs is_done b c first second

-- "Joining is shown to give the same words either way round", "for equal slice lengths and where no step refuses": if one way is done so is the other, and both
-- answers and all words are the same.
pub join-turns : (ws vs : List ℕ) → length ws ≡ length vs → (join_of ws vs).answer.number ≡ done → join_of vs ws ≡ join_of ws vs
join-turns = either_way

-- "and however three are grouped, for equal slice lengths and where no step refuses": if the second is joined to the first and the third to both, with no
-- refusal, so may be the third to the second, and both to the first, and the answer and all words are the same; and the other way about.
pub join-groups : (us ws vs : List ℕ) → length us ≡ length ws → length ws ≡ length vs
    → ((join_of us ws).answer.number ≡ done → (join_of (join_of us ws).words vs).answer.number ≡ done
    → ((join_of ws vs).answer.number ≡ done) × (join_of us (join_of ws vs).words ≡ join_of (join_of us ws).words vs))
    × ((join_of ws vs).answer.number ≡ done → (join_of us (join_of ws vs).words).answer.number ≡ done
    → ((join_of us ws).answer.number ≡ done) × (join_of (join_of us ws).words vs ≡ join_of us (join_of ws vs).words))
join-groups us ws vs x y = (regrouped us ws vs x y, regrouped_back us ws vs x y)

-- "joining an empty book of the same k changes nothing": to a book that agrees with itself, whatever the lengths of both slices.
pub join-none : (ws vs : List ℕ) (b : Book) → IsBook ws b → Agrees b → head_words ≤ length vs → length vs ≤ most_book_words
    → join_of ws (open_of vs b.k).words ≡ outcome (answered done) ws
join-none ws vs b i g = join-empty ws vs b i ((sound-agreeing b i.sound).1 g)
