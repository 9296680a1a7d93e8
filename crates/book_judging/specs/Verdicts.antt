-- The rows of 01's table that judging can answer, with the line that 02 wants ("Point at the line I can fix"), by document 000's positions, r, l
-- and p and by sound books, apart from the tests of `judge_of`. That judging answers exactly by these rows is shown in proofs/Verdicts.antt.
-- Assumes nothing: these are definitions.
use Rattle.std.specs.Prelude.{ℕ, ◌-◌, ◌≤◌, ◌<◌, ◌≡◌, List}
use Rattle.book.specs.Decoding.{Refused}
use Rattle.words.specs.Base.{◌∈◌}
use Rattle.figures.specs.Numbers.{done, top_unknown, low_unknown, middle_unknown}
use Rattle.figures.specs.Answers.{answered}
use Rattle.figures.specs.declared.Answer.{Answer}
use Rattle.section.specs.Entries.{Entry}
use Rattle.order.specs.Trees.{Tree, words, depth, subtrees}
use Rattle.order.specs.Reading.{found}
use Rattle.order.specs.Causes.{Cause}
use Rattle.order.specs.Fits.{IsOrder}
use Rattle.order.specs.Answers.{tree_of_line}
use Rattle.order.specs.Paper.{StrictlyBelow, IsR, IsL, IsP}
use Rattle.book.specs.Book.{Book}
use Rattle.book.specs.Sound.{IsBook, WhyForm}

-- A tree is in a section: some entry has its words.
pub record In (es : List Entry) (t : Tree) : Type 0 where
  pub entry : Entry
  pub there : entry ∈ es
  pub spelt : entry.key ≡ words t

-- "An order passes when its top is in R, all its low parts are in L and all its middle parts are in P": as sets, by 000's r, l and p.
pub record Passes (b : Book) (t : Tree) : Type 0 where
  pub top : (u : Tree) → IsR (b.k - 1) t u → In b.R u
  pub lows : (u : Tree) → IsL (b.k - 1) t u → In b.L u
  pub middles : (u : Tree) → IsP b.k t u → In b.P u

-- A subtree's part is in the book. "The depth of the uncut subtree decides between L and P."
pub record Known (b : Book) (s : Tree) : Type 0 where
  pub low : depth s ≤ b.k - 2 → In b.L s
  pub middle : b.k - 1 ≤ depth s → (u : Tree) → IsR b.k s u → In b.P u

-- "no line is unknown": every line's part is in the book.
abbrev pub AllKnown : Book → Tree → Type 0
AllKnown b t = (line : ℕ) (s : Tree) → tree_of_line line (subtrees t) ≡ found s → Known b s

-- A subtree "whose part is unknown while nothing strictly below it is unknown", which is s/x at no position x but λ.
pub record ToFix (b : Book) (s : Tree) : Type 0 where
  pub unknown : Known b s → ⊥
  pub under : (u : Tree) → StrictlyBelow s u → Known b u

-- s is the subtree of the line, which is "the least one" to fix.
pub record Doubted (b : Book) (t : Tree) (line : ℕ) (s : Tree) : Type 0 where
  pub on : tree_of_line line (subtrees t) ≡ found s
  pub fix : ToFix b s
  pub earlier : (j : ℕ) (u : Tree) → j < line → tree_of_line j (subtrees t) ≡ found u → ToFix b u → ⊥

-- Why a book answers an order by a.
pub data Verdict (b : Book) (t : Tree) (a : Answer) : Type 0 where
  -- 0: "passes"
  passing : a ≡ answered done → Passes b t → Verdict b t a
  -- 20: "top not in R", with line 1, "only when no line is unknown"
  no_top : a ≡ record { number = top_unknown; line = 1 } → AllKnown b t → ((u : Tree) → IsR (b.k - 1) t u → In b.R u → ⊥) → Verdict b t a
  -- 21: "low part unknown", at "the least one whose part is unknown while nothing strictly below it is unknown"
  no_low : (line : ℕ) (s : Tree) → a ≡ record { number = low_unknown; line = line } → Doubted b t line s → depth s ≤ b.k - 2 → (In b.L s → ⊥)
      → Verdict b t a
  -- 22: "middle part unknown", at that line
  no_middle : (line : ℕ) (s : Tree) → a ≡ record { number = middle_unknown; line = line } → Doubted b t line s → b.k - 1 ≤ depth s
      → ((u : Tree) → IsR b.k s u → In b.P u → ⊥) → Verdict b t a

-- Why judging answers a: "Judge: 4, 5, 1, 2, verdict."
pub data Judged (ws os : List ℕ) (a : Answer) : Type 0 where
  -- 4 and 5, by the book alone
  no_book : (n : ℕ) → a ≡ answered n → WhyForm ws (Refused n) → Judged ws os a
  -- 1 and 2, by the order
  no_order : (b : Book) (n : ℕ) → a ≡ answered n → IsBook ws b → Cause os n → (n ≡ done → ⊥) → Judged ws os a
  -- the verdict
  judged : (b : Book) (t : Tree) → IsBook ws b → IsOrder os t → Verdict b t a → Judged ws os a

-- What was lent is a book in form and an order within limits.
pub record Lent (ws os : List ℕ) : Type 0 where
  pub book : Book
  pub tree : Tree
  pub is_book : IsBook ws book
  pub is_order : IsOrder os tree

-- What 0 says: the order passes by the book.
pub record PassesBy (ws os : List ℕ) : Type 0 where
  pub lent : Lent ws os
  pub passes : Passes lent.book lent.tree

-- What 20 with a line says: the line is 1, every line's part is known, and the order's top is not in R.
pub record TopUnknown (ws os : List ℕ) (line : ℕ) : Type 0 where
  pub lent : Lent ws os
  pub first : line ≡ 1
  pub known : AllKnown lent.book lent.tree
  pub unknown : (u : Tree) → IsR (lent.book.k - 1) lent.tree u → In lent.book.R u → ⊥

-- What 21 with a line says: it is the least one to fix, and its subtree is low and not in L.
pub record LowUnknown (ws os : List ℕ) (line : ℕ) : Type 0 where
  pub lent : Lent ws os
  pub subtree : Tree
  pub doubted : Doubted lent.book lent.tree line subtree
  pub low : depth subtree ≤ lent.book.k - 2
  pub unknown : In lent.book.L subtree → ⊥

-- What 22 with a line says: it is the least one to fix, and its subtree is deeper and its r of index k not in P.
pub record MiddleUnknown (ws os : List ℕ) (line : ℕ) : Type 0 where
  pub lent : Lent ws os
  pub subtree : Tree
  pub doubted : Doubted lent.book lent.tree line subtree
  pub deep : lent.book.k - 1 ≤ depth subtree
  pub unknown : (u : Tree) → IsR lent.book.k subtree u → In lent.book.P u → ⊥
