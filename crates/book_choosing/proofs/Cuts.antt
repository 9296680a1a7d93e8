-- The search for a tree among the cuts of an order's lines: at each line the lines left decide. Assumes nothing.
use Prim.Native.Nat.{ℕ, zero, suc, ◌+◌, ◌*◌, ◌/◌, ◌≤◌, ◌<◌}
use mathlib.Core.Path.{◌≡◌, refl, ap, sym, ◌∙◌}
use mathlib.Core.Bool.{true, false}
use mathlib.Core.List.{List, [], ◌++◌, map}
use native.Mathlib.Nat.{add-zero}
use native.Mathlib.Omega.{arith}
use lib.ListN.{length, drop, get_or, drop_of_length-le}
use lib.Seq.{get_or-drop}
use Rattle.words.specs.Base.{when◌then◌else◌, same_words}
use Rattle.words.proofs.Tests.{words_same, fails}
use Rattle.figures.specs.Numbers.{done}
use Rattle.order.specs.Trees.{Tree, node, words, cut, subtrees}
use Rattle.order.specs.Reading.{by_order, cause_of}
use Rattle.order.specs.Standing.{cut_of}
use Rattle.order.specs.Answers.{tree_at}
use Rattle.order.proofs.Lines.{Spot, line-spot, cut-spot, tree-next}
use Rattle.order.proofs.Causes.{Passed, has-tree}
use Rattle.order.proofs.Spots.{two_words-a_line}
use Rattle.book_choosing.specs.Choosing.{is_one_of}
use Rattle.book_choosing.specs.Walking.{cut_from}

-- The first word of a tree and of its cut is its code.
cut-code : (s : Tree) (d : ℕ) → get_or (words (cut s d)) 0 0 ≡ get_or (words s) 0 0
unfolding words cut
cut-code (node c f) zero = refl
cut-code (node c f) (suc d) = refl

-- The first word of a tree's words, whatever follows them.
first_word : (s : Tree) (after : List ℕ) → get_or (words s ++ after) 0 0 ≡ get_or (words s) 0 0
unfolding words
first_word (node c f) after = refl

module _ (os : List ℕ) (d : ℕ) (tree : List ℕ) (line : ℕ) (sound : cause_of os ≡ done) where
  -- The order's tree.
  abbrev t : Tree
  t = (has-tree os sound).tree

  -- Its words are the order's.
  passes : Passed os t
  passes = (has-tree os sound).passes

  -- What the search comes to, by the tree.
  by_tree : (l : ℕ) → cut_from os d tree l ≡ is_one_of tree (map (λ s. cut s d) (drop l (subtrees t)))
  unfolding cut_from by_order
  by_tree l = rw passes.is

  -- Past the last line none is left.
  pub cut-none : length os / 2 ≤ line → cut_from os d tree line ≡ false
  unfolding is_one_of
  cut-none h =
      let e : drop line (subtrees t) ≡ [] = drop_of_length-le (subtrees t) {i = line} (omega (arith, two_words-a_line os t passes)) in
      by_tree line ∙ ap (λ (ss : List Tree). is_one_of tree (map (λ s. cut s d) ss)) e

  module _ (h : line < length os / 2) where
    -- Where the line's subtree stands.
    spot : Spot os (line * 2) (tree_at (subtrees t) line)
    spot = line-spot os t line passes (omega (arith, two_words-a_line os t passes))

    -- The line's cut is looked at first.
    looked_at : cut_from os d tree line ≡ (when same_words (cut_of os (line * 2) d) tree then true else cut_from os d tree (line + 1))
    unfolding is_one_of
    looked_at =
        by_tree line
        ∙ ap (λ (ss : List Tree). is_one_of tree (map (λ s. cut s d) ss)) (tree-next (subtrees t) line spot.tree spot.is)
        ∙ rw (cut-spot os (line * 2) _ spot d, by_tree (line + 1)) refl

    -- One that has the words is found,
    pub cut-here : same_words (cut_of os (line * 2) d) tree ≡ true → cut_from os d tree line ≡ true
    unfolding when◌then◌else◌
    cut-here e = looked_at ∙ rw e

    -- and behind another the search goes on.
    pub cut-past : same_words (cut_of os (line * 2) d) tree ≡ false → cut_from os d tree line ≡ cut_from os d tree (line + 1)
    unfolding when◌then◌else◌
    cut-past e = looked_at ∙ rw e

    -- A line with another code has another cut.
    pub code-past : (get_or os (line * 2) 0 ≡ get_or tree 0 0 → ⊥) → cut_from os d tree line ≡ cut_from os d tree (line + 1)
    code-past x =
        cut-past
        (fails _ (λ e.
        let same : cut_of os (line * 2) d ≡ tree = words_same _ _ e in
        x
        (ap (λ (n : ℕ). get_or os n 0) (sym (add-zero (line * 2)))
        ∙ sym (get_or-drop (line * 2) os 0 0)
        ∙ ap (λ (ws : List ℕ). get_or ws 0 0) spot.here
        ∙ first_word spot.tree spot.after
        ∙ sym (cut-code spot.tree d)
        ∙ ap (λ (ws : List ℕ). get_or ws 0 0) (sym (cut-spot os (line * 2) _ spot d) ∙ same))))
