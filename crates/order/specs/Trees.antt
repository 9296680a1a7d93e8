-- Order trees, their words, depth, cuts and subtrees (01, "Orders" and "Parts"; document 000, section II). Assumes nothing: these are
-- definitions.
use Rattle.std.specs.Prelude.{List, [], ◌∷◌, ◌++◌, ℕ, zero, suc, ◌≤◌, max}
use Rattle.figures.specs.Limits.{least_code, greatest_code, most_children}

-- A node has an option code and its children, which are a row of trees.
mutual
  pub data Tree : Type 0 where
    node : ℕ → Forest → Tree

  pub data Forest : Type 0 where
    bare : Forest
    cons : Tree → Forest → Forest

-- How many trees stand in the row.
unfoldable pub count : Forest → ℕ
count bare = 0
count (cons t f) = suc (count f)

-- "A node is two words": its code, "then its number of children". "An order is its nodes in preorder, top first".
unfoldable mutual
  pub words : Tree → List ℕ
  words (node c f) = c ∷ count f ∷ words_f f

  pub words_f : Forest → List ℕ
  words_f bare = []
  words_f (cons t f) = words t ++ words_f f

-- "The depth of a node is its distance from the top": the greatest of them; of a row, one more than that of its deepest tree.
unfoldable mutual
  pub depth : Tree → ℕ
  depth (node c f) = depth_f f

  pub depth_f : Forest → ℕ
  depth_f bare = 0
  depth_f (cons t f) = max (suc (depth t)) (depth_f f)

-- "Cut(t, d) keeps the nodes of depth at most d; a node at depth d is written with child count 0."
unfoldable mutual
  pub cut : Tree → ℕ → Tree
  cut (node c f) zero = node c bare
  cut (node c f) (suc d) = node c (cut_f f d)

  pub cut_f : Forest → ℕ → Forest
  cut_f bare d = bare
  cut_f (cons t f) d = cons (cut t d) (cut_f f d)

-- The subtrees in preorder: the one of line 1 is the tree itself.
unfoldable mutual
  pub subtrees : Tree → List Tree
  subtrees (node c f) = node c f ∷ subtrees_f f

  pub subtrees_f : Forest → List Tree
  subtrees_f bare = []
  subtrees_f (cons t f) = subtrees t ++ subtrees_f f

-- What stands strictly below a tree's own line: the subtrees of its row of children.
unfoldable pub below : Tree → List Tree
below (node c f) = subtrees_f f

-- Every code is 1 to 9999, and every node has at most 8 children.
unfoldable mutual
  pub Good : Tree → Type 0
  Good (node c f) = ((least_code ≤ c) × (c ≤ greatest_code) × (count f ≤ most_children)) × GoodF f

  pub GoodF : Forest → Type 0
  GoodF bare = Unit {0}
  GoodF (cons t f) = Good t × GoodF f
