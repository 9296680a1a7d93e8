-- What stands strictly below a tree's line follows it in the list of an order's subtrees, before all that stands elsewhere, and so do its words. Assumes
-- nothing.
use Prim.Native.Nat.{ℕ, ◌+◌, ◌<◌}
use mathlib.Core.Path.{◌≡◌, refl, ap, sym, ◌∙◌}
use mathlib.Core.List.{List, [], ◌∷◌, ◌++◌, append_assoc, append-nil}
use native.Mathlib.Omega.{arith}
use lib.ListN.{length, take, drop, length-append, take-append-drop}
use Rattle.words.specs.Base.{◌∈◌}
use Rattle.order.specs.Trees.{Tree, node, Forest, bare, cons, subtrees, subtrees_f, below}
use Rattle.order.specs.Reading.{found}
use Rattle.order.specs.Answers.{tree_at}
use Rattle.order.proofs.Lines.{at_left, at-behind, place-within, tree-next}
use Rattle.order.proofs.LineParts.{at_in, in_at}

-- Where a list that is two lists has a member: in the first of them, or in the second.
data Splits (xs ys us : List Tree) (s : Tree) (vs : List Tree) : Type 0 where
  in_first : (ws : List Tree) → xs ≡ us ++ (s ∷ ws) → vs ≡ ws ++ ys → Splits xs ys us s vs
  in_second : (ws : List Tree) → ys ≡ ws ++ (s ∷ vs) → Splits xs ys us s vs

-- With one more in front of both.
splits_more : (x u : Tree) (xs ys us : List Tree) (s : Tree) (vs : List Tree) → x ≡ u → Splits xs ys us s vs → Splits (x ∷ xs) ys (u ∷ us) s vs
splits_more x u xs ys us s vs e (in_first ws p q) = in_first ws (rw (e, p) refl) q
splits_more x u xs ys us s vs e (in_second ws p) = in_second ws p

-- Any member is in one of them.
splits : (xs ys us : List Tree) (s : Tree) (vs : List Tree) → xs ++ ys ≡ us ++ (s ∷ vs) → Splits xs ys us s vs
splits [] ys us s vs e = in_second us e
splits (x ∷ xs) ys [] s vs e = let z : x ≡ s = cc in let w : vs ≡ xs ++ ys = cc in in_first xs (rw z refl) w
splits (x ∷ xs) ys (u ∷ us) s vs e = let z : x ≡ u = cc in let w : xs ++ ys ≡ us ++ (s ∷ vs) = cc in splits_more x u xs ys us s vs z (splits xs ys us s vs w)

-- A list begins with the subtrees that stand strictly below a tree.
pub record Follows (s : Tree) (vs : List Tree) : Type 0 where
  pub code : ℕ
  pub row : Forest
  pub rest : List Tree
  pub is : s ≡ node code row
  pub here : vs ≡ subtrees_f row ++ rest

-- What follows further on does not matter.
follows-more : (s : Tree) (ws vs ys : List Tree) → vs ≡ ws ++ ys → Follows s ws → Follows s vs
follows-more s ws vs ys e f = record {
  code = f.code;
  row = f.row;
  rest = f.rest ++ ys;
  is = f.is;
  here = e ∙ ap (λ (l : List Tree). l ++ ys) f.here ∙ append_assoc (subtrees_f f.row) f.rest ys;
}

-- Behind each subtree of a tree, and of a row of trees, come those that stand strictly below it.
mutual
  unfolding subtrees

  follows-tree : (t : Tree) (us : List Tree) (s : Tree) (vs : List Tree) → subtrees t ≡ us ++ (s ∷ vs) → Follows s vs
  follows-tree (node c f) [] s vs e =
      let z : s ≡ node c f = cc in
      let w : vs ≡ subtrees_f f = cc in
      record { code = c; row = f; rest = []; is = z; here = w ∙ sym (append-nil (subtrees_f f)) }
  follows-tree (node c f) (u ∷ us) s vs e = let w : subtrees_f f ≡ us ++ (s ∷ vs) = cc in follows-row f us s vs w

  pub follows-row : (f : Forest) (us : List Tree) (s : Tree) (vs : List Tree) → subtrees_f f ≡ us ++ (s ∷ vs) → Follows s vs
  follows-row bare us s vs e = absurd (omega (arith, ap length e, length-append us (s ∷ vs)))
  follows-row (cons t f) us s vs e = go (splits (subtrees t) (subtrees_f f) us s vs e) (λ ws p. follows-tree t us s ws p) (λ ws p. follows-row f ws s vs p)
    where
      -- By whether it is one of the first tree's or of the others'.
      go : Splits (subtrees t) (subtrees_f f) us s vs → ((ws : List Tree) → subtrees t ≡ us ++ (s ∷ ws) → Follows s ws)
          → ((ws : List Tree) → subtrees_f f ≡ ws ++ (s ∷ vs) → Follows s vs) → Follows s vs
      go (in_first ws p q) first later = follows-more s ws vs (subtrees_f f) q (first ws p)
      go (in_second ws p) first later = later ws p

-- The lines behind one are first those of what stands strictly below it.
below_next : (t s : Tree) (i : ℕ) → tree_at (subtrees t) i ≡ found s → (rest : List Tree) × (drop (i + 1) (subtrees t) ≡ below s ++ rest)
unfolding below
below_next t s i e = go s (follows-tree t (take i (subtrees t)) s (drop (i + 1) (subtrees t)) split)
  where
    -- The lines before it, it, and those behind it.
    split : subtrees t ≡ take i (subtrees t) ++ (s ∷ drop (i + 1) (subtrees t))
    split = sym (take-append-drop i (subtrees t)) ∙ ap (λ (l : List Tree). take i (subtrees t) ++ l) (tree-next (subtrees t) i s e)

    -- Said by `below`.
    go : (u : Tree) → Follows u (drop (i + 1) (subtrees t)) → (rest : List Tree) × (drop (i + 1) (subtrees t) ≡ below u ++ rest)
    go u F = (F.rest, rw F.is F.here)

-- So each tree that stands strictly below a line has one of the lines that follow it, as many as its subtree has besides its own,
pub below-line : (t s u : Tree) (i : ℕ) → tree_at (subtrees t) i ≡ found s → u ∈ below s → (m : ℕ) × (m < length (below s)) × (tree_at (subtrees t) (i + 1 + m) ≡ found u)
below-line t s u i e in-below =
    let p = in_at in-below in
    let n = below_next t s i e in
    let few = place-within (below s) p.0 u p.1 in
    (p.0, few, sym (at-behind (subtrees t) (i + 1) p.0) ∙ ap (λ (l : List Tree). tree_at l p.0) n.1 ∙ at_left (below s) n.0 p.0 few ∙ p.1)

-- and what has one of these stands strictly below.
pub line-below : (t s u : Tree) (i m : ℕ) → tree_at (subtrees t) i ≡ found s → m < length (below s) → tree_at (subtrees t) (i + 1 + m) ≡ found u → u ∈ below s
line-below t s u i m e few f =
    let n = below_next t s i e in
    at_in (below s) m (sym (at_left (below s) n.0 m few) ∙ ap (λ (l : List Tree). tree_at l m) (sym n.1) ∙ at-behind (subtrees t) (i + 1) m ∙ f)
