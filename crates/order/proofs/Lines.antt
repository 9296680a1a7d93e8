-- Lines and words: the subtree of line i + 1 stands at word 2 i. Assumes nothing.
use mathlib.Core.Path.{◌≡◌, refl, ap, sym, subst, ◌∙◌}
use mathlib.Core.List.{List, [], ◌∷◌, ◌++◌}
use Prim.Native.Nat.{ℕ, zero, suc, ◌+◌, ◌-◌, ◌*◌, ◌/◌, ◌≤◌, ◌<◌}
use native.Mathlib.Decide.{dec_lt}
use native.Mathlib.Numerals.{add-one}
use native.Mathlib.Omega.{arith}
use borrow.Author.Tests.{lt-ltb, le-ltb}
use lib.ListN.{length, drop, drop_of_length-le}
use Rattle.words.proofs.Tests.{never}
use Rattle.words.specs.Base.{when◌then◌else◌}
use Rattle.figures.specs.Limits.{most_words}
use Rattle.figures.specs.Numbers.{done}
use Rattle.order.specs.Trees.{Tree, node, words, cut, Good, subtrees}
use Rattle.order.specs.Reading.{by_found, TreeFound, missing, found, refused, order, by_order, order_of, cause_of}
use Rattle.order.specs.Standing.{first_tree, tree_from, cut_of, Place, Refused, Lacking, At, line_place, place_of}
use Rattle.order.specs.Answers.{tree_at, tree_of_line}
use Rattle.order.proofs.Reading.{not_found, complete, reads_none}
use Rattle.order.proofs.Orders.{size}
use Rattle.order.proofs.Cutting.{subtree-good}
use Rattle.order.proofs.LineParts.{at_in}
use Rattle.order.proofs.Waiting.{words_w, waiting_at, open_subtrees}
use Rattle.order.proofs.Causes.{Passed, Seen, stopped, passed, seen, refused-by}

-- ---- a place in a list of trees

-- A place of the first of two lists is one of both.
pub at_left : (us vs : List Tree) (i : ℕ) → i < length us → tree_at (us ++ vs) i ≡ tree_at us i
unfolding tree_at
at_left [] vs i h = absurd (omega arith)
at_left (u ∷ us) vs zero h = refl
at_left (u ∷ us) vs (suc i) h = at_left us vs i (omega arith)

-- A place of the second of two lists is one of both, past the first.
pub at_right : (us vs : List Tree) (i : ℕ) → length us ≤ i → tree_at (us ++ vs) i ≡ tree_at vs (i - length us)
unfolding tree_at
at_right [] vs i h = ap (tree_at vs) (omega arith)
at_right (u ∷ us) vs zero h = absurd (omega arith)
at_right (u ∷ us) vs (suc i) h = at_right us vs i (omega arith) ∙ ap (tree_at vs) (omega arith)

-- A place behind so many trees.
pub at-behind : (ts : List Tree) (n i : ℕ) → tree_at (drop n ts) i ≡ tree_at ts (n + i)
unfolding tree_at
at-behind ts zero i = ap (tree_at ts) (omega arith)
at-behind [] (suc n) i = refl
at-behind (t ∷ ts) (suc n) i = let z : suc n + i ≡ suc (n + i) = omega arith in rw z (at-behind ts n i)

-- Past the last place there is no tree.
at-past : (us : List Tree) (i : ℕ) → length us ≤ i → tree_at us i ≡ missing
unfolding tree_at
at-past [] i h = refl
at-past (u ∷ us) zero h = absurd (omega arith)
at-past (u ∷ us) (suc i) h = at-past us i (omega arith)

-- A place that has a tree is one of the list.
pub place-within : (ts : List Tree) (i : ℕ) (s : Tree) → tree_at ts i ≡ found s → i < length ts
unfolding tree_at
place-within [] i s e = not_found e
place-within (t ∷ ts) zero s e = omega arith
place-within (t ∷ ts) (suc i) s e = omega (arith, place-within ts i s e)

-- From a place that has a tree on, the list is this tree and what follows it.
pub tree-next : (ts : List Tree) (i : ℕ) (s : Tree) → tree_at ts i ≡ found s → drop i ts ≡ s ∷ drop (i + 1) ts
unfolding tree_at
tree-next [] i s e = not_found e
tree-next (t ∷ ts) zero s e = let z : t ≡ s = cc in ap (λ (u : Tree). u ∷ ts) z
tree-next (t ∷ ts) (suc i) s e = tree-next ts i s e ∙ rw (add-one i, add-one (suc i)) refl

-- And the other way round.
pub next-tree : (ts : List Tree) (i : ℕ) (s : Tree) (rest : List Tree) → drop i ts ≡ s ∷ rest → tree_at ts i ≡ found s
unfolding tree_at
next-tree [] i s rest e = absurd (omega (arith, ap length (drop_of_length-le {A = Tree} [] {i = i} (omega arith)), ap length e))
next-tree (t ∷ ts) zero s rest e = let z : t ≡ s = cc in ap found z
next-tree (t ∷ ts) (suc i) s rest e = next-tree ts i s rest e

-- ---- a place in the words

-- The words from `at` on begin with those of a good tree, which is x.
pub record Spot (s : List ℕ) (at : ℕ) (x : TreeFound) : Type 0 where
  pub tree : Tree
  pub after : List ℕ
  pub good : Good tree
  pub here : drop at s ≡ words tree ++ after
  pub is : x ≡ found tree

-- A choice by whether i is below n.
pick : {A : Type 0} (i n : ℕ) → (i < n → A) → (n ≤ i → A) → A
pick i n f g = elim (dec_lt i n) [ yes h ↦ f h | no h ↦ g (omega arith) ]

-- The subtree of each line of an order has its spot in the order's words.
pub line-spot : (s : List ℕ) (t : Tree) (i : ℕ) → Passed s t → i < length (subtrees t) → Spot s (i * 2) (tree_at (subtrees t) i)
unfolding words_w
line-spot s t i p h =
    let w = waiting_at t i h in
    let u : Tree = node w.code w.row in
    let is : tree_at (subtrees t) i ≡ found u = next-tree (subtrees t) i u _ (w.subtrees-are ∙ open_subtrees w.code w.row w.level w.others) in
    record {
      tree = u;
      after = words_w w.others;
      good = subtree-good t (at_in (subtrees t) i is) p.good;
      here = ap (drop (i * 2)) p.spelt ∙ w.words_are;
      is = is;
    }

-- "A subtree is a contiguous part of the order's words": the subtree of line i + 1 is the words from word 2 i on.
pub subtree-part : (s : List ℕ) (t u : Tree) (i : ℕ) → Passed s t → tree_of_line (suc i) (subtrees t) ≡ found u → (after : List ℕ) × (drop (i * 2) s ≡ words u ++ after)
unfolding tree_of_line
subtree-part s t u i p l = pick i (length (subtrees t))
    (λ h.
    let q = line-spot s t i p h in
    let e : u ≡ q.tree = cc q.is in
    (q.after, rw e q.here))
    (λ h. not_found (sym (at-past (subtrees t) i h) ∙ l))

-- What stands at a spot: the tree, and the words of the cut.
module _ (s : List ℕ) (at : ℕ) (x : TreeFound) (p : Spot s at x) where
  -- The words from there on begin with the tree.
  pub from_spot : tree_from s at ≡ found p.tree
  unfolding tree_from first_tree
  from_spot = rw (p.here, complete p.tree p.good 0 p.after, reads_none p.after) refl

  -- The cut is that of the tree.
  pub cut-spot : (d : ℕ) → cut_of s at d ≡ words (cut p.tree d)
  unfolding cut_of by_found
  cut-spot d = rw from_spot refl

-- ---- where a line stands

-- The order passes, and the line is one that it has, at this word.
pub record HasLine (s : List ℕ) (line at : ℕ) : Type 0 where
  pub tree : Tree
  pub is : order_of s ≡ order tree
  pub short : length s ≤ most_words
  pub spot : Spot s at (tree_of_line line (subtrees tree))

-- The order passes, and the line is one that it lacks.
pub record LacksLine (s : List ℕ) (line : ℕ) : Type 0 where
  pub tree : Tree
  pub is : order_of s ≡ order tree
  pub lacks : tree_of_line line (subtrees tree) ≡ missing

-- Words that have the line are an order.
pub has-no-cause : (s : List ℕ) (line at : ℕ) → HasLine s line at → cause_of s ≡ done
unfolding cause_of by_order
has-no-cause s line at h = rw h.is refl

-- What a place says of the order and the line.
abbrev pub Placed : List ℕ → ℕ → Place → Type 0
Placed s line (Refused n) = order_of s ≡ refused n
Placed s line Lacking = LacksLine s line
Placed s line (At at) = HasLine s line at

-- `Placed` holds of the lines of an order that passes.
placed_line : (s : List ℕ) (line : ℕ) (t : Tree) → Passed s t → Placed s line (line_place (length (subtrees t)) line)
unfolding line_place tree_of_line when◌then◌else◌
placed_line s zero t p = record { tree = t; is = p.is; lacks = refl }
placed_line s (suc i) t p = pick i (length (subtrees t))
    (λ l. rw (lt-ltb i (length (subtrees t)) l) (record {
      tree = t;
      is = p.is;
      short = omega (arith, size t, ap length p.spelt, p.nodes);
      spot = line-spot s t i p l;
    }))
    (λ l. rw (le-ltb i (length (subtrees t)) l) (record { tree = t; is = p.is; lacks = at-past (subtrees t) i l }))

-- `Placed` holds of any words and any line.
placed_of : (s : List ℕ) (line : ℕ) → Placed s line (place_of s line)
unfolding place_of by_order
placed_of s line = go (seen s)
  where
    go : Seen s → Placed s line (place_of s line)
    go (stopped k e) = rw e e
    go (passed t k p) = rw p.is (placed_line s line t p)

-- `Placed` holds of what a call of `find_line` or `find_in` answered: its result w is known to be v.
pub placed : (s : List ℕ) (line : ℕ) (w v : Place) → w ≡ place_of s line → w ≡ v → Placed s line v
placed s line w v e f = subst (Placed s line) (sym e ∙ f) (placed_of s line)

-- ---- the place by the order's length

module _ (s : List ℕ) (line : ℕ) where
  -- A number that is not 0 refuses the line too.
  pub place-refused : (cause_of s ≡ done → ⊥) → place_of s line ≡ Refused (cause_of s)
  unfolding place_of by_order
  place-refused h = rw (refused-by s h)

  -- An order has half as many lines as words.
  lines : (t : Tree) → Passed s t → place_of s line ≡ line_place (length s / 2) line
  unfolding place_of by_order
  lines t p = let n : length (subtrees t) ≡ length s / 2 = omega (arith, size t, ap length p.spelt) in rw (p.is, n)

  -- An order without a cause has the lines that its length says.
  by_length : cause_of s ≡ done → place_of s line ≡ line_place (length s / 2) line
  by_length e = go (seen s)
    where
      go : Seen s → place_of s line ≡ line_place (length s / 2) line
      go (stopped k f) = absurd (k e)
      go (passed t k p) = lines t p

  -- There is no line 0.
  pub place_none : cause_of s ≡ done → line ≡ 0 → place_of s line ≡ Lacking
  unfolding line_place
  place_none e z = by_length e ∙ rw z refl

-- A line past the last is lacking.
line-past : (n line : ℕ) → n < line → line_place n line ≡ Lacking
unfolding line_place when◌then◌else◌
line-past n zero h = refl
line-past n (suc i) h = rw (le-ltb i n (omega arith))

-- A line that is there stands at its word.
line_at : (n line : ℕ) → (line ≡ 0 → ⊥) → line ≤ n → line_place n line ≡ At ((line - 1) * 2)
unfolding line_place when◌then◌else◌
line_at n zero z h = absurd (z refl)
line_at n (suc i) z h = let y : suc i - 1 ≡ i = omega arith in rw (lt-ltb i n (omega arith), y)

module _ (s : List ℕ) (line : ℕ) (passes : cause_of s ≡ done) where
  -- A line past the last is lacking.
  pub place-past : length s / 2 < line → place_of s line ≡ Lacking
  place-past h = by_length s line passes ∙ line-past (length s / 2) line h

  -- Any other line stands at its word.
  pub place_at_lem : (line ≡ 0 → ⊥) → line ≤ length s / 2 → place_of s line ≡ At ((line - 1) * 2)
  place_at_lem z h = by_length s line passes ∙ line_at (length s / 2) line z h

-- The order passes, has the line, and the word is that of the line.
pub record StandsAt (s : List ℕ) (line at : ℕ) : Type 0 where
  pub passes : cause_of s ≡ done
  pub some : 0 < line
  pub has : line ≤ length s / 2
  pub word : at ≡ (line - 1) * 2

-- `StandsAt` holds where a line of an order is found at a word.
pub stands_at : (s : List ℕ) (line at : ℕ) → place_of s line ≡ At at → StandsAt s line at
stands_at s line at e = go (seen s)
  where
    not_there : {A : Type 0} → Lacking ≡ At at → A
    not_there h = never cc

    there : cause_of s ≡ done → 0 < line → line ≤ length s / 2 → StandsAt s line at
    there k z h =
        let w : At ((line - 1) * 2) ≡ At at = sym (place_at_lem s line k (λ y. omega arith) h) ∙ e in
        record { passes = k; some = z; has = h; word = cc }

    go : Seen s → StandsAt s line at
    go (stopped k f) = let w : Refused (cause_of s) ≡ At at = sym (place-refused s line k) ∙ e in never cc
    go (passed t k p) = pick 0 line
        (λ z. pick (length s / 2) line (λ h. not_there (sym (place-past s line k h) ∙ e)) (there k z))
        (λ z. not_there (sym (place_none s line k (omega arith)) ∙ e))
