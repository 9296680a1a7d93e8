-- The parts of an order at k (01, "Parts"). Assumes nothing: these are definitions.
use Rattle.std.specs.Prelude.{ℕ, ◌-◌, Bool, not, List, [], ◌∷◌, map, leb}
use Rattle.words.specs.Base.{when◌then◌else◌, same_words, keep}
use Rattle.order.specs.Trees.{Tree, words, depth, cut, subtrees}
use Rattle.order.specs.declared.Kind.{Kind}
use Rattle.order.specs.declared.Kind.TheVariants.{Low, Middle}

-- "top of t: cut(t, k-2)"
unfoldable pub top : ℕ → Tree → Tree
top k t = cut t (k - 2)

-- A subtree of depth at most k-2 is low; any other has a depth of at least k-1.
unfoldable pub is_low : ℕ → Tree → Bool
is_low k s = leb (depth s) (k - 2)

-- "low parts: every subtree of depth at most k-2", as often as they occur
unfoldable pub lows : ℕ → Tree → List Tree
lows k t = keep (is_low k) (subtrees t)

-- What a middle part is of its subtree: "cut(s, k-1)"
unfoldable pub middle : ℕ → Tree → Tree
middle k s = cut s (k - 1)

-- "every subtree s of depth at least k-1" has a middle part.
unfoldable pub is_middle : ℕ → Tree → Bool
is_middle k s = leb (k - 1) (depth s)

-- "middle parts: cut(s, k-1) for every subtree s of depth at least k-1", as often as they occur
unfoldable pub middles : ℕ → Tree → List Tree
middles k t = map (middle k) (keep (is_middle k) (subtrees t))

-- Two trees are the same if their words are.
unfoldable pub same_tree : Tree → Tree → Bool
same_tree s t = same_words (words s) (words t)

-- "once per teaching however often it occurs in it": each tree where it first occurs
unfoldable pub each_once : List Tree → List Tree
each_once [] = []
each_once (t ∷ ts) = t ∷ keep (λ s. not (same_tree t s)) (each_once ts)

-- The low parts of an order, each once.
unfoldable pub low_parts : ℕ → Tree → List Tree
low_parts k t = each_once (lows k t)

-- The middle parts of an order, each once.
unfoldable pub middle_parts : ℕ → Tree → List Tree
middle_parts k t = each_once (middles k t)

-- What a line's subtree stands for. "The depth of the uncut subtree decides between L and P."
pub record Part : Type 0 where
  pub kind : Kind
  pub tree : Tree

-- The subtree itself if it is low, and otherwise its cut.
unfoldable pub part_of : ℕ → Tree → Part
part_of k s = when is_low k s then record { kind = Low; tree = s } else record { kind = Middle; tree = middle k s }
