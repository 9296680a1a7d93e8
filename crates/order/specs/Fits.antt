-- Which words are an order within the limits, of a depth between two numbers. Assumes nothing: these are definitions.
use Rattle.std.specs.Prelude.{ℕ, ◌≤◌, ◌≡◌, Bool, false, List, length}
use Rattle.words.specs.Base.{within}
use Rattle.figures.specs.Limits.{most_nodes, greatest_depth}
use Rattle.order.specs.Trees.{Tree, words, depth, subtrees, Good}
use Rattle.order.specs.Reading.{by_order, order_of}

-- "every tree well formed and within limits": the words are an order, of a depth between the two.
unfoldable pub fits_of : ℕ → ℕ → List ℕ → Bool
fits_of least greatest ws = by_order (order_of ws) (λ n. false) (λ t. within least greatest (depth t))

-- The words are those of an order within limits, by trees alone.
pub record IsOrder (ws : List ℕ) (t : Tree) : Type 0 where
  pub spelt : ws ≡ words t
  pub good : Good t
  pub nodes : length (subtrees t) ≤ most_nodes
  pub deep : depth t ≤ greatest_depth

-- What it means to fit, by trees alone; shown to be `fits_of` in proofs/Fitting.antt.
pub record Fits (least greatest : ℕ) (ws : List ℕ) : Type 0 where
  pub tree : Tree
  pub is_order : IsOrder ws tree
  pub above : least ≤ depth tree
  pub below : depth tree ≤ greatest
