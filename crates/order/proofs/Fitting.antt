-- Which words fit (specs/Fits.antt): what the tree of words says of it, that `fits_of` is `Fits`, and that the parts of an order fit.
-- Assumes nothing.
use Rattle.std.specs.Prelude.{None, Some}
use Rattle.std.specs.declared.cmp.Ordering.TheVariants.{Less}
use Prim.Native.Nat.{ℕ, ◌-◌, ◌*◌, ◌/◌, ◌≤◌, ◌<◌}
use mathlib.Core.Path.{◌≡◌, refl, ap, sym, subst, ◌∙◌}
use mathlib.Core.Bool.{Bool, true, false}
use mathlib.Core.List.Memᴰ
use mathlib.Core.List.{List, []}
use native.Mathlib.Omega.{arith}
use borrow.Author.Tests.{le-leb, leb-true}
use lib.Dec.{leb}
use lib.ListN.{length}
use Rattle.words.specs.Base.{within, keep, ◌∈◌}
use Rattle.words.specs.Compare.{compare_of}
use Rattle.words.proofs.Tests.{no_test, and_left, and_right, and_both, fails_right, never}
use Rattle.figures.specs.Limits.{most_nodes, most_words, greatest_depth}
use Rattle.order.specs.Trees.{Tree, node, words, depth, cut, subtrees}
use Rattle.order.specs.Reading.{TreeFound, missing, found, tree_of, order, by_order, order_of}
use Rattle.order.specs.Parts.{top, is_low, lows, middle, is_middle, middles, low_parts, middle_parts}
use Rattle.order.specs.Spans.{measured_of}
use Rattle.order.specs.Fits.{fits_of, IsOrder, Fits}
use Rattle.order.proofs.Unique.{words-unique}
use Rattle.order.proofs.Once.{kept_in, once_from}
use Rattle.order.proofs.Cutting.{depth-cut, cut-depth, cut-deep, cut-good, cut-nodes, subtree-good, subtree-nodes}
use Rattle.order.proofs.Paper.{subtree-from, subtree-depth}
use Rattle.order.proofs.Orders.{size, words-read, read-words, tree-passes}
use Rattle.order.proofs.Causes.{Passed, Seen, stopped, passed, seen, order-passed}

-- ---- what the tree says

-- The tree of an order that passes is the one that is read.
passed-found : {s : List ℕ} {t : Tree} → Passed s t → tree_of s ≡ found t
passed-found {s} {t} p = ap tree_of p.spelt ∙ words-read t p.good

-- A tree that is read of few enough words, and is not too deep, is an order.
found_passed : (s : List ℕ) (t : Tree) → length s ≤ most_words → tree_of s ≡ found t → depth t ≤ greatest_depth → Passed s t
found_passed s t l e d =
    let r = read-words s t e in
    let n : length (subtrees t) ≤ most_nodes = omega (arith, size t, ap length r.0) in
    order-passed s t (ap order_of r.0 ∙ tree-passes t r.1 n d)

-- What is measured of a tree is its depth.
depth-told : (x : TreeFound) (t : Tree) (d : ℕ) → measured_of x ≡ Some d → x ≡ found t → depth t ≡ d
unfolding measured_of
depth-told x t d e f = let same : Some (depth t) ≡ Some d = rw f at e in cc

-- Nothing is measured of what is no tree.
no_depth : {A : Type 0} (d : ℕ) → measured_of missing ≡ Some d → A
unfolding measured_of
no_depth d e = never cc

module _ (least greatest : ℕ) (s : List ℕ) where
  -- Of an order the depth decides.
  fits-order : (t : Tree) → order_of s ≡ order t → fits_of least greatest s ≡ within least greatest (depth t)
  unfolding fits_of by_order
  fits-order t e = rw e

  -- Words do not fit that are no order, or one of another depth.
  fits-none : ((t : Tree) → Passed s t → within least greatest (depth t) ≡ false) → fits_of least greatest s ≡ false
  unfolding fits_of by_order
  fits-none h = go (seen s)
    where
      go : Seen s → fits_of least greatest s ≡ false
      go (stopped k e) = rw e
      go (passed t k p) = rw p.is (h t p)

  -- More words than an order has do not fit.
  pub fits-long : most_words < length s → fits_of least greatest s ≡ false
  fits-long l = fits-none (λ t p. absurd (omega (arith, size t, ap length p.spelt, p.nodes)))

  -- Words that are no tree do not fit.
  pub fits-broken : measured_of (tree_of s) ≡ None → fits_of least greatest s ≡ false
  unfolding measured_of
  fits-broken e = fits-none (λ t p. never (cc (rw (passed-found p) at e)))

  -- Of a tree of few enough words the depth decides.
  pub fits-deep : (d : ℕ) → length s ≤ most_words → greatest ≤ greatest_depth → measured_of (tree_of s) ≡ Some d → fits_of least greatest s ≡ within least greatest d
  fits-deep d short g e = go (tree_of s) refl (leb d greatest) refl
    where
      go : (x : TreeFound) → tree_of s ≡ x → (y : Bool) → leb d greatest ≡ y → fits_of least greatest s ≡ within least greatest d
      go missing f y l = no_depth d (sym (ap measured_of f) ∙ e)
      go (found t) f false l =
          fits-none (λ u p. fails_right _ _ (ap (λ (n : ℕ). leb n greatest) (depth-told (tree_of s) u d e (passed-found p)) ∙ l))
          ∙ sym (fails_right (leb least d) (leb d greatest) l)
      go (found t) f true l =
          let deep : depth t ≡ d = depth-told (tree_of s) t d e f in
          let p = found_passed s t short f (omega (arith, leb-true d greatest l)) in
          fits-order t p.is ∙ ap (within least greatest) deep

-- ---- what it means to be an order, and to fit

-- Words that are read as an order are one within limits.
pub passed-order : (ws : List ℕ) (t : Tree) → Passed ws t → IsOrder ws t
passed-order ws t p = record { spelt = p.spelt; good = p.good; nodes = p.nodes; deep = p.deep }

-- So are words that are the order of a tree.
pub read-order : (ws : List ℕ) (t : Tree) → order_of ws ≡ order t → IsOrder ws t
read-order ws t e = passed-order ws t (order-passed ws t e)

-- And the other way round.
pub order-read : (ws : List ℕ) (t : Tree) → IsOrder ws t → order_of ws ≡ order t
order-read ws t o = ap order_of o.spelt ∙ tree-passes t o.good o.nodes o.deep

-- An order within limits fits.
pub order-fits : {ws : List ℕ} {t : Tree} → IsOrder ws t → Fits 0 greatest_depth ws
order-fits {ws} {t} o = record { tree = t; is_order = o; above = omega arith; below = o.deep }

-- Words that fit are an order of any tree whose words they are.
pub fits-order_of : {least greatest : ℕ} (ws : List ℕ) (t : Tree) → ws ≡ words t → Fits least greatest ws → IsOrder ws t
fits-order_of ws t e f = subst (IsOrder ws) (words-unique f.tree t (sym f.is_order.spelt ∙ e)) f.is_order

module _ (least greatest : ℕ) (ws : List ℕ) where
  -- Words that fit are those of a tree within the limits, of such a depth.
  pub fits-tree : fits_of least greatest ws ≡ true → Fits least greatest ws
  unfolding fits_of by_order
  fits-tree e = go (seen ws)
    where
      go : Seen ws → Fits least greatest ws
      go (stopped k r) = no_test (rw r at e)
      go (passed t k p) =
          let b : within least greatest (depth t) ≡ true = sym (fits-order least greatest ws t p.is) ∙ e in
          record {
            tree = t;
            is_order = passed-order ws t p;
            above = leb-true _ _ (and_left _ _ b);
            below = leb-true _ _ (and_right _ _ b);
          }

  -- And back: the words of such a tree fit.
  pub tree-fits : Fits least greatest ws → fits_of least greatest ws ≡ true
  tree-fits f = fits-order least greatest ws f.tree (order-read ws f.tree f.is_order) ∙ and_both (le-leb _ _ f.above) (le-leb _ _ f.below)

  -- The number of words that fit is even.
  pub fits-even : fits_of least greatest ws ≡ true → 2 * (length ws / 2) ≡ length ws
  fits-even e = let f = fits-tree e in omega (arith, size f.tree, ap length f.is_order.spelt)

-- The empty key stands below the words of a tree.
empty-below : (t : Tree) → compare_of [] (words t) ≡ Less
unfolding compare_of words
empty-below (node c f) = refl

-- The empty key stands below every order.
pub fits-some : (least greatest : ℕ) (ws : List ℕ) → fits_of least greatest ws ≡ true → compare_of [] ws ≡ Less
fits-some least greatest ws e = let f = fits-tree least greatest ws e in ap (compare_of []) f.is_order.spelt ∙ empty-below f.tree

-- ---- the parts of an order fit

-- A tree whose words fit is an order.
fits-passed : (t : Tree) (least greatest : ℕ) → Fits least greatest (words t) → Passed (words t) t
fits-passed t least greatest f =
    order-passed (words t) t (order-read (words t) t (fits-order_of (words t) t refl f))

-- The top of an order fits.
pub top-fits : (k : ℕ) (t : Tree) (least greatest : ℕ) → Fits least greatest (words t) → Fits 0 (k - 2) (words (top k t))
unfolding top
top-fits k t least greatest f =
    let p = fits-passed t least greatest f in
    record {
      tree = cut t (k - 2);
      is_order = record {
        spelt = refl;
        good = cut-good t (k - 2) p.good;
        nodes = omega (arith, cut-nodes t (k - 2), p.nodes);
        deep = omega (arith, depth-cut t (k - 2), p.deep);
      };
      above = omega arith;
      below = cut-depth t (k - 2);
    }

-- Each low part of an order fits.
pub low_fits : (k : ℕ) (t s : Tree) (least greatest : ℕ) → Fits least greatest (words t) → s ∈ low_parts k t → Fits 0 (k - 2) (words s)
unfolding low_parts lows is_low
low_fits k t s least greatest f m =
    let p = fits-passed t least greatest f in
    let r = kept_in (is_low k) (subtrees t) (once_from _ m) in
    record {
      tree = s;
      is_order = record {
        spelt = refl;
        good = subtree-good t r.0 p.good;
        nodes = omega (arith, subtree-nodes t r.0, p.nodes);
        deep = omega (arith, subtree-depth (subtree-from t r.0), p.deep);
      };
      above = omega arith;
      below = leb-true (depth s) (k - 2) r.1;
    }

-- Each middle part of an order fits, and is k-1 deep.
pub middle-fits : (k : ℕ) (t u : Tree) (least greatest : ℕ) → Fits least greatest (words t) → u ∈ middle_parts k t → Fits (k - 1) (k - 1) (words u)
unfolding middle_parts middles is_middle middle
middle-fits k t u least greatest f m =
    let p = fits-passed t least greatest f in
    let q = Memᴰ.of_map (middle k) (keep (is_middle k) (subtrees t)) (once_from _ m) in
    let s : Tree = q.0 in
    let r = kept_in (is_middle k) (subtrees t) q.1 in
    let is : cut s (k - 1) ≡ u = q.2 in
    let deep : depth (cut s (k - 1)) ≡ k - 1 = cut-deep s (k - 1) (leb-true (k - 1) (depth s) r.1) in
    record {
      tree = cut s (k - 1);
      is_order = record {
        spelt = ap words (sym is);
        good = cut-good s (k - 1) (subtree-good t r.0 p.good);
        nodes = omega (arith, cut-nodes s (k - 1), subtree-nodes t r.0, p.nodes);
        deep = omega (arith, depth-cut s (k - 1), subtree-depth (subtree-from t r.0), p.deep);
      };
      above = omega arith;
      below = omega arith;
    }

-- The words of an order that passes are within the limits.
pub passed-fits : (ws : List ℕ) (t : Tree) → Passed ws t → Fits 0 greatest_depth (words t)
passed-fits ws t p = subst (Fits 0 greatest_depth) p.spelt (order-fits (passed-order ws t p))
