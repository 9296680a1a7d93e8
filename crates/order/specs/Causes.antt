-- The rows for 0, 1 and 2 of 01's table, for an order given as words, by trees alone. That the number of an order is given exactly by
-- these rows is shown in proofs/Causes.antt. Assumes nothing: these are definitions.
use Rattle.std.specs.Prelude.{ℕ, ◌%◌, ◌≤◌, ◌<◌, ◌≡◌, List, length}
use Rattle.figures.specs.Limits.{most_words, greatest_depth}
use Rattle.figures.specs.Numbers.{done, no_order, too_large}
use Rattle.order.specs.Trees.{Tree, words, depth, Good}

-- Why words are answered by the number n.
pub data Cause (ws : List ℕ) (n : ℕ) : Type 0 where
  -- 1: "order empty"
  empty : n ≡ no_order → length ws ≡ 0 → Cause ws n
  -- 1: "odd length", of any number of words
  odd : n ≡ no_order → length ws % 2 ≡ 1 → Cause ws n
  -- 2: "order over 128 words", whatever they are
  long : n ≡ too_large → length ws % 2 ≡ 0 → most_words < length ws → Cause ws n
  -- 1: "a code or child count out of range, or not exactly one tree": they are the words of no good tree
  no_tree : n ≡ no_order → length ws % 2 ≡ 0 → length ws ≤ most_words → ((t : Tree) → Good t → ws ≡ words t → ⊥) → Cause ws n
  -- 2: "deeper than 12"
  deep : n ≡ too_large → length ws ≤ most_words → (t : Tree) → Good t → ws ≡ words t → greatest_depth < depth t → Cause ws n
  -- 0: none of these
  none : n ≡ done → length ws ≤ most_words → (t : Tree) → Good t → ws ≡ words t → depth t ≤ greatest_depth → Cause ws n
