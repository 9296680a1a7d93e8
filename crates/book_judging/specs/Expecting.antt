-- What `judge` hands on of a doubted part's neighbours in the book, for all inputs (02, "Say what the book expected"). Assumes nothing: these are
-- definitions.
use Rattle.std.specs.Prelude.{ℕ, List}
use Rattle.words.specs.Base.{when◌then◌else◌}
use Rattle.section.specs.Entries.{has}
use Rattle.section.specs.Near.{nowhere, near_of}
use Rattle.section.specs.declared.Neighbours.{Neighbours}
use Rattle.order.specs.Trees.{Tree, words, subtrees}
use Rattle.order.specs.Reading.{by_order, order_of}
use Rattle.order.specs.Parts.{top, is_low, middle}
use Rattle.book.specs.Book.{Book}
use Rattle.book.specs.Decoding.{on_book}
use Rattle.book_judging.specs.Judging.{Doubt, no_doubt, doubt, least_to_fix, judge_of}
use Rattle.book_judging.specs.declared.Judgement.{Judgement}

-- The neighbours of a subtree's part where it is looked up. "The depth of the uncut subtree decides between L and P."
unfoldable pub near_part : Book → Tree → Neighbours
near_part b s = when is_low b.k s then near_of (words s) b.L else near_of (words (middle b.k s)) b.P

-- The neighbours of the order's top in R.
unfoldable pub near_top : Book → Tree → Neighbours
near_top b t = near_of (words (top b.k t)) b.R

-- "Judge hands this on for the reported line, and for the top with answer 20; with any other answer it is all 0 and not there."
unfoldable pub expected_on : Book → Tree → Doubt → Neighbours
expected_on b t no_doubt = when has (words (top b.k t)) b.R then nowhere else near_top b t
expected_on b t (doubt line s) = near_part b s

-- What a book expects of an order, at the line that is reported.
unfoldable pub expected : Book → Tree → Neighbours
expected b t = expected_on b t (least_to_fix b 1 (subtrees t))

-- The same for whatever was lent: nothing with 4, 5, 1 and 2.
unfoldable pub expected_of : List ℕ → List ℕ → Neighbours
expected_of ws os = on_book (λ n. nowhere) ws (λ b. by_order (order_of os) (λ n. nowhere) (expected b))

-- All that `judge` answers.
abbrev pub judgement_of : List ℕ → List ℕ → Judgement
judgement_of ws os = record { answer = judge_of ws os; near = expected_of ws os }
