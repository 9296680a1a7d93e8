-- Inner: no promise rests on these definitions.
-- What the inner functions of `book_seek` and `book_judge` look up in a book, by the trees that stand in the order's words. Assumes nothing:
-- these are definitions.
use Rattle.std.specs.Prelude.{ℕ, zero, suc, ◌+◌, ◌*◌, ◌-◌, ◌≤◌, Bool, true, false, List, [], ◌∷◌, ◌≡◌, length, take, drop}
use Rattle.words.specs.Base.{when◌then◌else◌}
use Rattle.figures.specs.Numbers.{done, low_unknown, middle_unknown}
use Rattle.figures.specs.Answers.{answered}
use Rattle.section.specs.Entries.{Entry, entries, span, Sorted}
use Rattle.section.specs.Near.{near, nowhere, place_at}
use Rattle.section.specs.declared.Neighbours.{Neighbours}
use Rattle.order.specs.Trees.{Tree, words, subtrees}
use Rattle.order.specs.Reading.{found, by_found, by_order, order_of}
use Rattle.order.specs.Parts.{is_low, part_of}
use Rattle.order.specs.Standing.{tree_from}
use Rattle.book.specs.Book.{Book}
use Rattle.book_judging.specs.Judging.{knows, Doubt, no_doubt, doubt, least_to_fix, verdict_on}
use Rattle.book_judging.specs.Expecting.{near_top, expected_on}
use Rattle.book_judging.specs.declared.Judgement.{Judgement}
use Rattle.book_judging.specs.declared.Sought.{Sought}

-- The neighbours of the order's top in the book.
unfoldable pub top_near : Book → List ℕ → Neighbours
top_near b os = by_order (order_of os) (λ n. nowhere) (near_top b)

-- The least line whose subtree's part is unknown, of the subtrees from a line on; 0 where every part is known.
unfoldable pub unknown_line : Book → ℕ → List Tree → ℕ
unknown_line b line [] = 0
unknown_line b line (s ∷ ss) = when knows b s then unknown_line b (suc line) ss else line

-- The first line of the order whose part is unknown, of the lines from one up to another, both counted from 0; the line is counted from 1, and is
-- 0 where there is none.
unfoldable pub unknown_within : Book → List ℕ → ℕ → ℕ → ℕ
unknown_within b os from to = by_order (order_of os) (λ n. 0) (λ t. unknown_line b (suc from) (take (to - from) (drop from (subtrees t))))

-- The line of a doubt; 0 where there is none.
unfoldable pub doubt_line : Doubt → ℕ
doubt_line no_doubt = 0
doubt_line (doubt line s) = line

-- The line of the order that is to be fixed, or 0.
unfoldable pub line_to_fix : Book → List ℕ → ℕ
line_to_fix b os = by_order (order_of os) (λ n. 0) (λ t. doubt_line (least_to_fix b 1 (subtrees t)))

-- A number with no line and no neighbours.
abbrev pub plainly_of : ℕ → Judgement
plainly_of n = record { answer = answered n; near = nowhere }

-- The judgement of a book on an order, by the line that is doubted.
abbrev pub judged_on : Book → Tree → Doubt → Judgement
judged_on b t d = record { answer = verdict_on b t d; near = expected_on b t d }

-- The judgement at a line of an order whose part is unknown, lines counted from 1; 0 alone at the line 0, which is none. Every line has a tree.
unfoldable pub judged_line : Book → List ℕ → ℕ → Judgement
judged_line b os zero = plainly_of done
judged_line b os (suc i) = by_found (tree_from os (i * 2)) (plainly_of done) (λ s. judged_on b s (doubt (suc i) s))

-- What is answered is the judgement at the line.
pub record JudgedAt (b : Book) (os : List ℕ) (line : ℕ) (r : Judgement) : Type 0 where
  pub at : r.answer.line ≡ line
  pub is : r ≡ judged_line b os line

-- The words that a part is in: a low part is in the order's own words, and a middle part in those of its cut.
abbrev pub spelt_in : Bool → List ℕ → List ℕ → List ℕ
spelt_in true os cut = os
spelt_in false os cut = cut

-- The section that a part is looked up in.
abbrev pub looked_up_in : Bool → Book → List Entry
looked_up_in true b = b.L
looked_up_in false b = b.P

-- The words of the part that is sought.
abbrev pub key_of : Sought → List ℕ → List ℕ → List ℕ
key_of r os cut = take (r.to - r.from) (drop r.from (spelt_in r.low os cut))

-- What is sought is the part of the tree at a word of the order, in the words of its section.
pub record Seeks (b : Book) (ws os : List ℕ) (at : ℕ) (cut : List ℕ) (r : Sought) : Type 0 where
  pub tree : Tree
  pub here : tree_from os at ≡ found tree
  pub kind : r.low ≡ is_low b.k tree
  pub key : key_of r os cut ≡ words (part_of b.k tree).tree
  pub forward : r.from ≤ r.to
  pub lies : r.to ≤ length (spelt_in r.low os cut)
  pub among : entries r.many (drop r.at ws) ≡ looked_up_in r.low b
  pub sorted : Sorted (entries r.many (drop r.at ws))
  pub within : r.at + span r.many (drop r.at ws) ≤ length ws

-- The judgement at a line whose part's search has stopped there.
abbrev pub unknown_of : Sought → List ℕ → List ℕ → ℕ → ℕ → ℕ → ℕ → Judgement
unknown_of r key ws line last at left =
    record {
      answer = record { number = when r.low then low_unknown else middle_unknown; line = line };
      near = near (r.many - left) false (place_at key ws last (r.many - left)) (place_at key ws at left);
    }
