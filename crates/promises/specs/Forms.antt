-- What stands on a line of a form and which line it is, by its bytes: levels and codes in tens, and lines counted by their LF (01, "Order form
-- text"); and which line comes back of an order that does not pass (02, "Point at the line I can fix"). Assumes nothing: these are definitions.
use Rattle.std.specs.Prelude.{ℕ, suc, ◌+◌, ◌*◌, ◌-◌, ◌≤◌, ◌<◌, ◌≡◌, List, [], ◌∷◌, ◌++◌, length, get_or}
use Rattle.words.specs.Base.{◌∈◌}
use Rattle.figures.specs.Numbers.{done, top_unknown, low_unknown, middle_unknown}
use Rattle.figures.specs.declared.Answer.{Answer}
use Rattle.order.specs.Trees.{Tree, words, depth, subtrees}
use Rattle.order.specs.Reading.{found}
use Rattle.order.specs.Answers.{tree_of_line}
use Rattle.order.specs.Paper.{StrictlyBelow, IsR}
use Rattle.form.specs.Text.{Line, digit_0, space, line_feed, level_text, code_text, line_text, spell, text_of}
use Rattle.form.specs.Faults.{NoDeeper}
use Rattle.book.specs.Book.{Book}
use Rattle.book_judging.specs.Verdicts.{In, Passes}
use Rattle.desk_step.specs.Lines.{feeds}

-- ---- in tens

-- "Level is one digit, or two of which the first is not 0": what stands before the space of a line is its level in tens.
pub data LevelInTens (level : ℕ) (text : List ℕ) : Type 0 where
  one_figure : (a : ℕ) → a < 10 → text ≡ (digit_0 + a) ∷ [] → level ≡ a → LevelInTens level text
  two_figures : (a b : ℕ) → 1 ≤ a → a < 10 → b < 10 → text ≡ (digit_0 + a) ∷ (digit_0 + b) ∷ [] → level ≡ a * 10 + b → LevelInTens level text

-- "one space, exactly four decimal digits, LF": what stands behind a level on a line is a space, the four digits of a code in tens, and LF.
pub record InTens (code : ℕ) (text : List ℕ) : Type 0 where
  pub a : ℕ
  pub b : ℕ
  pub c : ℕ
  pub d : ℕ
  pub digits : (a < 10) × (b < 10) × (c < 10) × (d < 10)
  pub text_is : text ≡ space ∷ (digit_0 + a) ∷ (digit_0 + b) ∷ (digit_0 + c) ∷ (digit_0 + d) ∷ line_feed ∷ []
  pub code_is : code ≡ a * 1000 + b * 100 + c * 10 + d

-- A line stands in a text: behind some bytes its level, and behind that its code.
pub record LineStands (text : List ℕ) (x : Line) : Type 0 where
  pub front : List ℕ
  pub rest : List ℕ
  pub is : text ≡ front ++ (level_text x.level ++ (code_text x.code ++ rest))

-- ---- which line it is

-- "counted from 1": the line with that number of a form's text, behind the lines before it, each of which ends in LF.
pub record LineOfText (text : List ℕ) (line : ℕ) (x : Line) : Type 0 where
  pub before : List Line
  pub behind : List Line
  pub text_is : text ≡ spell before ++ (line_text x ++ spell behind)
  pub place : line ≡ suc (length before)
  pub feeds_before : line ≡ suc (feeds (spell before))

-- "any other comes back to the order clerk with a number and a line": the number is 20, 21 or 22; the line is one of the order's lines, and stands in
-- its form with the code at the top of the line's subtree.
pub record ComesBack (t : Tree) (a : Answer) : Type 0 where
  pub least : top_unknown ≤ a.number
  pub greatest : a.number ≤ middle_unknown
  pub first : 1 ≤ a.line
  pub last : a.line ≤ length (subtrees t)
  pub subtree : Tree
  pub on : tree_of_line a.line (subtrees t) ≡ found subtree
  pub read_aloud : Line
  pub stands : LineOfText (text_of t) a.line read_aloud
  pub its_code : read_aloud.code ≡ get_or (words subtree) 0 0

-- Of the lines of a form, so many stand below this one: those that follow it with higher levels, up to the next line of its level or above.
pub record LinesBelow (form : List Line) (line n : ℕ) : Type 0 where
  pub before : List Line
  pub this : Line
  pub below : List Line
  pub behind : List Line
  pub form_is : form ≡ before ++ (this ∷ (below ++ behind))
  pub place : line ≡ suc (length before)
  pub many : n ≡ length below
  pub deeper : (x : Line) → x ∈ below → this.level < x.level
  pub ends : NoDeeper this.level behind

-- ---- which line comes back

-- A subtree's part is in the book: "every subtree of depth at most k-2" is a low part itself, and of a deeper one the middle part is its r of
-- index k. Said apart from the rows of judging (`Known`, book_judging/specs/Verdicts.antt), so that a change of these is seen here.
pub record PartKnown (b : Book) (s : Tree) : Type 0 where
  pub low : depth s ≤ b.k - 2 → In b.L s
  pub middle : b.k - 1 ≤ depth s → (u : Tree) → IsR b.k s u → In b.P u

-- "no line is unknown": the part of every line is in the book.
abbrev pub NoLineUnknown : Book → Tree → Type 0
NoLineUnknown b t = (line : ℕ) (s : Tree) → tree_of_line line (subtrees t) ≡ found s → PartKnown b s

-- A line "whose part is unknown while nothing strictly below it is unknown": strictly below it stands what document 000 has as s/x, where s is
-- the line's subtree and x a position other than λ.
pub record CanBeFixed (b : Book) (t : Tree) (line : ℕ) : Type 0 where
  pub subtree : Tree
  pub on : tree_of_line line (subtrees t) ≡ found subtree
  pub unknown : PartKnown b subtree → ⊥
  pub below_known : (u : Tree) → StrictlyBelow subtree u → PartKnown b u

-- "The line wanted is the least one" of these, and the number is 21 or 22 by the depth of its subtree.
pub record LineWanted (b : Book) (t : Tree) (a : Answer) : Type 0 where
  pub this : CanBeFixed b t a.line
  pub least : (j : ℕ) → j < a.line → CanBeFixed b t j → ⊥
  pub low_is_21 : depth this.subtree ≤ b.k - 2 → a.number ≡ low_unknown
  pub deeper_is_22 : b.k - 1 ≤ depth this.subtree → a.number ≡ middle_unknown

-- What a book in form says of an order within limits: a line that is told with 21 or 22 is the one wanted; "Answer 20 is given only when no line is
-- unknown", and "whose line stays 1"; and an order that does not pass is never answered by 0.
pub record Told (b : Book) (t : Tree) (a : Answer) : Type 0 where
  pub wanted : low_unknown ≤ a.number → LineWanted b t a
  pub only_20 : a.number ≡ top_unknown → (a.line ≡ 1) × NoLineUnknown b t
  pub never_0 : (Passes b t → ⊥) → a.number ≡ done → ⊥
