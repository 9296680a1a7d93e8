-- A line of an order: where it stands in the order's words, and the tree that stands there. Assumes nothing.
use Prim.Native.Nat.{ℕ, ◌+◌, ◌-◌, ◌*◌, ◌/◌, ◌≤◌, ◌<◌}
use mathlib.Core.Path.{◌≡◌, refl, ap, sym, ◌∙◌}
use mathlib.Core.List.{List, [], append-nil}
use native.Mathlib.Omega.{arith}
use lib.ListN.{length, take, drop, length-append, length-drop}
use lib.Seq.{take-append_seam}
use Rattle.figures.specs.Limits.{most_words}
use Rattle.figures.specs.Numbers.{done}
use Rattle.order.specs.Trees.{Tree, words, cut, subtrees}
use Rattle.order.specs.Reading.{TreeFound, found, cause_of}
use Rattle.order.specs.Standing.{cut_of}
use Rattle.order.specs.Answers.{tree_at}
use Rattle.order.proofs.Orders.{size}
use Rattle.order.proofs.Causes.{Passed, has-tree}
use Rattle.order.proofs.Cutting.{cut-nodes}
use Rattle.order.proofs.Lines.{Spot, line-spot, cut-spot}

-- A line of an order, counted from 0, stands at a word.
pub record LineAt (os : List ℕ) (line : ℕ) : Type 0 where
  pub order : Tree
  pub passes : Passed os order
  pub lies : line * 2 + 2 ≤ length os
  pub spot : Spot os (line * 2) (tree_at (subtrees order) line)

-- An order has two words a line.
pub two_words-a_line : (os : List ℕ) (t : Tree) → Passed os t → length os ≡ length (subtrees t) * 2
two_words-a_line os t p = ap length p.spelt ∙ size t

-- An order has at most 128 words.
pub short-order : (os : List ℕ) (t : Tree) → Passed os t → length os ≤ most_words
short-order os t p = omega (arith, two_words-a_line os t p, p.nodes)

-- The same of words without a cause.
pub passed-short : (os : List ℕ) → cause_of os ≡ done → length os ≤ most_words
passed-short os e = let x = has-tree os e in short-order os x.tree x.passes

-- Every line that an order has stands at its word.
pub line_at : (os : List ℕ) (line : ℕ) → cause_of os ≡ done → line < length os / 2 → LineAt os line
line_at os line e h =
    let x = has-tree os e in
    let t = x.tree in
    let p = x.passes in
    record { order = t; passes = p; lies = omega arith; spot = line-spot os t line p (omega (arith, two_words-a_line os t p)) }

-- ---- what stands at a spot

-- Of an order of at most 128 words.
module _ (os : List ℕ) (at : ℕ) (x : TreeFound) (p : Spot os at x) where
  -- The tree lies within the order.
  pub spot_within : at ≤ length os → at + length (words p.tree) ≤ length os
  spot_within h = omega (arith, simp (length-append, length-drop) at (ap length p.here))

  -- Its words are those from there on.
  pub spot_part : take (length (words p.tree)) (drop at os) ≡ words p.tree
  spot_part = ap (take (length (words p.tree))) p.here ∙ take-append_seam (words p.tree) p.after

  -- They are those up to where it ends.
  pub spot_words : (e : ℕ) → e ≡ at + length (words p.tree) → take (e - at) (drop at os) ≡ words p.tree
  spot_words e h = let n : e - at ≡ length (words p.tree) = omega arith in rw n spot_part

  -- Any cut of it has at most 128 words.
  pub cut_short : (d : ℕ) → length os ≤ most_words → length (cut_of os at d) ≤ most_words
  cut_short d h =
      let t = p.tree in
      omega (arith, ap length (cut-spot os at x p d), size t, size (cut t d), cut-nodes t d, simp (length-append, length-drop) at (ap length p.here))

-- ---- the order's own tree

-- An order's tree stands at its first word.
abbrev pub top-spot : (os : List ℕ) (t : Tree) → Passed os t → Spot os 0 (found t)
top-spot os t p = record { tree = t; after = []; good = p.good; here = p.spelt ∙ sym (append-nil (words t)); is = refl }
