-- Inner: no promise rests on these definitions.
-- What stands at a word of an order, by the trees: a tree, its cut, a line. Assumes nothing: these are definitions.
use Rattle.std.specs.Prelude.{List, [], ℕ, zero, suc, ◌*◌, ltb, length, drop, None, Option, Some, Result, Ok, Err}
use Rattle.words.specs.Base.{when◌then◌else◌}
use Rattle.figures.specs.Refusals.{refusal_number}
use Rattle.figures.specs.declared.refusals.Refusal.{Refusal}
use Rattle.order.specs.Trees.{bare, cons, words, cut, subtrees}
use Rattle.order.specs.Reading.{Reading, broken, read, read_trees, TreeFound, missing, found, by_found, by_order, order_of}

-- The first tree of what was read.
unfoldable pub first_tree : Reading → TreeFound
first_tree broken = missing
first_tree (read bare ws) = missing
first_tree (read (cons t f) ws) = found t

-- The tree that the words from `at` on begin with.
unfoldable pub tree_from : List ℕ → ℕ → TreeFound
tree_from ws at = first_tree (read_trees (drop at ws) 1)

-- The words of the cut at d of the tree at a word; none where there is no tree.
unfoldable pub cut_of : List ℕ → ℕ → ℕ → List ℕ
cut_of ws at d = by_found (tree_from ws at) [] (λ t. words (cut t d))

-- Where a line of an order stands.
pub data Place : Type 0 where
  Refused : ℕ → Place
  Lacking : Place
  At : ℕ → Place

-- The place that is told of an order that passes: the word at which the line was found, if any.
abbrev pub place_told : Option ℕ → Place
place_told None = Lacking
place_told (Some at) = At at

-- The place that is told of words: the number by which they are refused, or the word at which the line was found, if any.
abbrev pub place_found : Result (Option ℕ) Refusal → Place
place_found (Err r) = Refused (refusal_number r)
place_found (Ok at) = place_told at

-- A line of an order stands at a word; line i + 1 stands at word 2 i.
unfoldable pub line_place : ℕ → ℕ → Place
line_place nodes zero = Lacking
line_place nodes (suc i) = when ltb i nodes then At (i * 2) else Lacking

-- Where a line of an order stands, if the words are an order and have the line.
unfoldable pub place_of : List ℕ → ℕ → Place
place_of ws line = by_order (order_of ws) Refused (λ t. line_place (length (subtrees t)) line)
