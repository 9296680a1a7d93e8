-- What `judge` answers, for all inputs (01, "Parts" and "Numbers the desk hears"; 02, "Point at the line I can fix"). Assumes nothing: these are
-- definitions.
use Rattle.std.specs.Prelude.{ℕ, suc, Bool, true, false, List, [], ◌∷◌}
use Rattle.words.specs.Base.{when◌then◌else◌, ◌and◌}
use Rattle.figures.specs.Numbers.{done, top_unknown, low_unknown, middle_unknown}
use Rattle.figures.specs.Answers.{answered}
use Rattle.figures.specs.declared.Answer.{Answer}
use Rattle.section.specs.Entries.{has}
use Rattle.order.specs.Trees.{Tree, words, subtrees, below}
use Rattle.order.specs.Reading.{by_order, order_of}
use Rattle.order.specs.Parts.{top, is_low, middle}
use Rattle.book.specs.Book.{Book}
use Rattle.book.specs.Decoding.{on_book}

-- The subtree's part is in the book. "The depth of the uncut subtree decides between L and P."
unfoldable pub knows : Book → Tree → Bool
knows b s = when is_low b.k s then has (words s) b.L else has (words (middle b.k s)) b.P

-- Each of the subtrees' parts is in the book.
unfoldable pub knows_each : Book → List Tree → Bool
knows_each b [] = true
knows_each b (s ∷ ss) = knows b s and knows_each b ss

-- "whose part is unknown while nothing strictly below it is unknown"
unfoldable pub to_fix : Book → Tree → Bool
to_fix b s = when knows b s then false else knows_each b (below s)

-- A line that is doubted, with its subtree; or none.
pub data Doubt : Type 0 where
  no_doubt : Doubt
  doubt : ℕ → Tree → Doubt

-- "The line wanted is the least one" to fix, of the subtrees from a line on.
unfoldable pub least_to_fix : Book → ℕ → List Tree → Doubt
least_to_fix b line [] = no_doubt
least_to_fix b line (s ∷ ss) = when to_fix b s then doubt line s else least_to_fix b (suc line) ss

-- The answer: 21 or 22 by the depth of the doubted line's subtree. "Answer 20 is given only when no line is unknown", and its line is 1.
unfoldable pub verdict_on : Book → Tree → Doubt → Answer
verdict_on b t no_doubt = when has (words (top b.k t)) b.R then answered done else record { number = top_unknown; line = 1 }
verdict_on b t (doubt line s) = record { number = when is_low b.k s then low_unknown else middle_unknown; line = line }

-- The verdict of a book on an order.
unfoldable pub verdict : Book → Tree → Answer
verdict b t = verdict_on b t (least_to_fix b 1 (subtrees t))

-- "Judge: 4, 5, 1, 2, verdict."
unfoldable pub judge_of : List ℕ → List ℕ → Answer
judge_of ws os = on_book answered ws (λ b. by_order (order_of os) answered (verdict b))
