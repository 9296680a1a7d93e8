-- The row of trees that words spell from their last node on is what `words` writes, and says which tree words are. Assumes nothing.
use Prim.Native.Nat.{ℕ, zero, suc, ◌+◌, ◌*◌, ◌-◌, ◌≤◌}
use mathlib.Core.Path.{◌≡◌, refl, sym, ap, subst, ◌∙◌}
use mathlib.Core.Bool.{Bool, true, false}
use mathlib.Core.List.{List, [], ◌∷◌, ◌++◌, append_assoc, append-nil}
use native.Mathlib.Omega.{arith}
use borrow.Author.Tests.{le-leb, lt-leb, leb-true, leb-false}
use lib.Dec.{leb}
use lib.ListN.{length, drop, get_or}
use Rattle.words.specs.Base.{◌and◌, when◌then◌else◌}
use Rattle.words.proofs.Tests.{and_left, and_right, never}
use Rattle.figures.specs.Nodes.{sound_node}
use Rattle.figures.specs.Limits.{least_code, greatest_code}
use Rattle.order.specs.Trees.{Tree, node, Forest, bare, cons, count, words, words_f, subtrees, subtrees_f, Good, GoodF}
use Rattle.order.specs.Reading.{first_trees, later_trees, TreeFound, missing, found, tree_of}
use Rattle.order.proofs.Reading.{join, node_ok, count-take}
use Rattle.order.proofs.Orders.{words-read, read-words}
use Rattle.order.proofs.Writing.{two}
use Rattle.order.specs.Spans.{Rowed, faulty, rowed, node_before, row_of}

-- ---- what is read is what `words` writes

-- The words of the parts are those of the row.
words-split : (k : ℕ) (f : Forest) → words_f (first_trees k f) ++ words_f (later_trees k f) ≡ words_f f
unfolding words_f first_trees later_trees
words-split zero f = refl
words-split (suc k) bare = refl
words-split (suc k) (cons t f) = append_assoc (words t) (words_f (first_trees k f)) (words_f (later_trees k f)) ∙ ap (λ (l : List ℕ). words t ++ l) (words-split k f)

-- So are the subtrees.
pub subtrees-split : (k : ℕ) (f : Forest) → subtrees_f (first_trees k f) ++ subtrees_f (later_trees k f) ≡ subtrees_f f
unfolding subtrees_f first_trees later_trees
subtrees-split zero f = refl
subtrees-split (suc k) bare = refl
subtrees-split (suc k) (cons t f) = append_assoc (subtrees t) (subtrees_f (first_trees k f)) (subtrees_f (later_trees k f)) ∙ ap (λ (l : List Tree). subtrees t ++ l) (subtrees-split k f)

-- The first part of a good row is good, and the second.
good-split : (k : ℕ) (f : Forest) → GoodF f → GoodF (first_trees k f) × GoodF (later_trees k f)
unfolding GoodF first_trees later_trees
good-split zero f g = (tt, g)
good-split (suc k) bare g = (tt, tt)
good-split (suc k) (cons t f) g = ((g.0, (good-split k f g.1).0), (good-split k f g.1).1)

-- A row that is read is good, and these are its words.
abbrev IsRow : List ℕ → Rowed → Type 0
IsRow ws faulty = Unit {0}
IsRow ws (rowed f) = (ws ≡ words_f f) × GoodF f

-- A node before a row that is read right is read right.
right_node : (b : Bool) (c n : ℕ) (ws : List ℕ) (r : Rowed) → sound_node c n ≡ b → IsRow ws r → IsRow (c ∷ n ∷ ws) (node_before b c n r)
unfolding node_before when◌then◌else◌ words_f words GoodF Good sound_node
right_node false c n ws r e h = tt
right_node true c n ws faulty e h = tt
right_node true c n ws (rowed f) e h = go (leb n (count f)) refl
  where
    go : (b : Bool) → leb n (count f) ≡ b → IsRow (c ∷ n ∷ ws) (when b then rowed (cons (node c (first_trees n f)) (later_trees n f)) else faulty)
    go false l = tt
    go true l =
        let m : count (first_trees n f) ≡ n = count-take n (count f - n) f (omega (arith, leb-true n (count f) l)) in
        let a : (leb least_code c and leb c greatest_code) ≡ true = and_left _ _ e in (
          rw m (ap (λ (l : List ℕ). c ∷ n ∷ l) (h.0 ∙ sym (words-split n f))),
          (((leb-true _ _ (and_left _ _ a), leb-true _ _ (and_right _ _ a), rw m (leb-true _ _ (and_right _ _ e))), (good-split n f h.1).0), (good-split n f h.1).1),
        )

-- Every row is read right.
row-right : (ws : List ℕ) → IsRow ws (row_of ws)
unfolding row_of words_f GoodF
row-right [] = (refl, tt)
row-right (c ∷ []) = tt
row-right (c ∷ n ∷ ws) = right_node (sound_node c n) c n ws (row_of ws) refl (row-right ws)

-- ---- what `words` writes is read

-- A row that is split where it was joined gives both back.
split-first : (f g : Forest) → first_trees (count f) (join f g) ≡ f
unfolding count first_trees
split-first bare g = refl
split-first (cons t f) g = ap (cons t) (split-first f g)

split-later : (f g : Forest) → later_trees (count f) (join f g) ≡ g
unfolding count later_trees
split-later bare g = refl
split-later (cons t f) g = split-later f g

joined-more : (f g : Forest) → count f ≤ count (join f g)
unfolding count
joined-more bare g = omega arith
joined-more (cons t f) g = omega (arith, joined-more f g)

mutual
  unfolding words Good row_of node_before count when◌then◌else◌

  written : (t : Tree) → Good t → (s : List ℕ) (g : Forest) → row_of s ≡ rowed g → row_of (words t ++ s) ≡ rowed (cons t g)
  written (node c f) h s g e =
      rw (node_ok c (count f) h.0, written_f f h.1 s g e, le-leb (count f) (count (join f g)) (joined-more f g), split-first f g, split-later f g) refl

  written_f : (f : Forest) → GoodF f → (s : List ℕ) (g : Forest) → row_of s ≡ rowed g → row_of (words_f f ++ s) ≡ rowed (join f g)
  written_f bare h s g e = e
  written_f (cons t f) h s g e = rw (append_assoc (words t) (words_f f) s) (written t h.0 (words_f f ++ s) (join f g) (written_f f h.1 s g e))

-- ---- the tree that words are

-- Words that are a tree are a row of it alone.
pub tree-row : (ws : List ℕ) (t : Tree) → tree_of ws ≡ found t → row_of ws ≡ rowed (cons t bare)
unfolding row_of
tree-row ws t e =
    let h = read-words ws t e in
    ap row_of (h.0 ∙ sym (append-nil (words t))) ∙ written t h.1 [] bare refl

-- A row of one tree is that tree.
pub row-tree : (ws : List ℕ) (t : Tree) → row_of ws ≡ rowed (cons t bare) → tree_of ws ≡ found t
unfolding words_f GoodF
row-tree ws t e =
    let h : (ws ≡ words t ++ []) × (Good t × Unit {0}) = subst (IsRow ws) e (row-right ws) in
    ap tree_of (h.0 ∙ append-nil (words t)) ∙ words-read t h.1.0

-- Words that are another row are no tree.
pub row-missing : (ws : List ℕ) → ((t : Tree) → row_of ws ≡ rowed (cons t bare) → ⊥) → tree_of ws ≡ missing
row-missing ws n = go (tree_of ws) refl
  where
    go : (x : TreeFound) → tree_of ws ≡ x → tree_of ws ≡ missing
    go missing e = e
    go (found t) e = absurd (n t (tree-row ws t e))

-- ---- a fault from the back

-- A node before a row that has fewer trees than the node has children is a fault.
pub lacks_child : (x : Bool) (c n : ℕ) (f : Forest) → leb n (count f) ≡ false → node_before x c n (rowed f) ≡ faulty
unfolding node_before when◌then◌else◌
lacks_child true c n f l = rw l refl
lacks_child false c n f l = refl

-- Where the words from a node on are no row, all the words are none.
faulty-before : (i : ℕ) (ws : List ℕ) → 2 * i ≤ length ws → row_of (drop (2 * i) ws) ≡ faulty → row_of ws ≡ faulty
unfolding row_of node_before
faulty-before zero ws h e = e
faulty-before (suc i) [] h e = absurd (omega arith)
faulty-before (suc i) (c ∷ []) h e = absurd (omega arith)
faulty-before (suc i) (c ∷ n ∷ ws) h e =
    let two : 2 * suc i ≡ suc (suc (2 * i)) = omega arith in
    let f : row_of ws ≡ faulty = faulty-before i ws (omega arith) (rw two at e) in
    rw f (no_row (sound_node c n))
  where
    no_row : (b : Bool) → node_before b c n faulty ≡ faulty
    no_row true = refl
    no_row false = refl

-- ---- one node

-- The words from a node on are its two and those behind it.
pub node-words : (os : List ℕ) (here at : ℕ) → here + 2 ≡ at → at ≤ length os → drop here os ≡ get_or os here 0 ∷ get_or os (here + 1) 0 ∷ drop at os
node-words os here at e h = two os here (omega arith) ∙ ap (λ (n : ℕ). get_or os here 0 ∷ get_or os (here + 1) 0 ∷ drop n os) e

-- One less of both compares alike.
pub leb_less : (a b : ℕ) → leb (suc a) (suc b) ≡ leb a b
leb_less a b = go (leb a b) refl
  where
    go : (x : Bool) → leb a b ≡ x → leb (suc a) (suc b) ≡ leb a b
    go true e = le-leb (suc a) (suc b) (omega (arith, leb-true a b e)) ∙ sym e
    go false e = lt-leb (suc a) (suc b) (omega (arith, leb-false a b e)) ∙ sym e

-- So they are no tree.
pub fault-missing : (i : ℕ) (ws : List ℕ) → 2 * i ≤ length ws → row_of (drop (2 * i) ws) ≡ faulty → tree_of ws ≡ missing
fault-missing i ws h e = row-missing ws (λ t g. never (cc (faulty-before i ws h e, g)))
