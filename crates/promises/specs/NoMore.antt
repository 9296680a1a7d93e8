-- Any three finite sets of tops, low parts and middle parts, their forms, a book's own three, and which orders are taught and which remain, as
-- sets of trees (02, "Show that the book lets in no more than it must"; document 000, sections III and IV). Assumes nothing: these are
-- definitions.
use Rattle.std.specs.Prelude.{ℕ, List, [], ◌∷◌}
use Rattle.words.specs.Base.{◌∈◌}
use Rattle.section.specs.Entries.{Entry}
use Rattle.order.specs.Trees.{Tree, words}
use Rattle.order.specs.Reading.{by_found, tree_of}
use Rattle.order.specs.Fits.{IsOrder}
use Rattle.order_learning.specs.Learning.{LetIn}
use Rattle.book.specs.Book.{Book}
use Rattle.book_judging.specs.Verdicts.{In}

-- ---- three sets

-- "any three finite sets" "of tops, low parts and middle parts". Nothing is asked of their trees: one that is no tree's top, low part or middle
-- part at k, being too deep, say, lets nothing in.
pub record ThreeSets : Type 0 where
  pub tops : List Tree
  pub lows : List Tree
  pub middles : List Tree

-- A tree is one of the "forms" of three sets at k: its top is among the tops, all its low parts are among the low parts, and all its middle parts
-- among the middle parts.
abbrev pub FormOf : ℕ → ThreeSets → Tree → Type 0
FormOf k s = LetIn k (λ u. u ∈ s.tops) (λ u. u ∈ s.lows) (λ u. u ∈ s.middles)

-- ---- the orders of a book

-- A taught order: one that T has.
abbrev pub TaughtIn : Book → Tree → Type 0
TaughtIn b = In b.T

-- Three sets, "at the book's k", "whose forms include all taught orders".
abbrev pub IncludeTaught : Book → ThreeSets → Type 0
IncludeTaught b s = (u : Tree) → TaughtIn b u → FormOf b.k s u

-- The trees of a section, one for each entry; words of no tree give none.
unfoldable pub trees_of : List Entry → List Tree
trees_of [] = []
trees_of (e ∷ es) = by_found (tree_of e.key) (trees_of es) (λ t. t ∷ trees_of es)

-- The book's own three sets: the trees of R, L and P.
abbrev pub sets_of : Book → ThreeSets
sets_of b = record { tops = trees_of b.R; lows = trees_of b.L; middles = trees_of b.P }

-- ---- the orders that remain

-- A tree is one of the orders that remain (demand 3): its words stand among them, and it is within limits.
pub record Remains (orders : List (List ℕ)) (u : Tree) : Type 0 where
  pub among : words u ∈ orders
  pub is_order : IsOrder (words u) u
