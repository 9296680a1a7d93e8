-- The lines of a form from that of a subtree on: its own, those of what stands strictly below it, which have higher levels, and then none or one of its level
-- or above. Assumes nothing.
use mathlib.Core.Path.{◌≡◌, refl, ap, sym, subst, ◌∙◌}
use mathlib.Core.Logic.{inl, inr}
use mathlib.Core.List.Memᴰ
use mathlib.Core.List.Memᴰ.{head as here}
use mathlib.Core.List.Memᴰ.{tail as there}
use mathlib.Core.List.{List, ◌++◌, append_assoc}
use Prim.Native.Nat.{ℕ, zero, suc, ◌+◌, ◌-◌, ◌<◌, ◌≤◌}
use native.Mathlib.Decide.{dec_lt}
use native.Mathlib.Omega.{arith}
use lib.ListN.{length, drop}
use lib.Seq.{drop-append-add}
use Rattle.words.specs.Base.{◌∈◌}
use Rattle.order.specs.Trees.{Tree, Forest, node, bare, cons, subtrees, subtrees_f}
use Rattle.order.specs.Reading.{found}
use Rattle.order.specs.Answers.{tree_at}
use Rattle.order.proofs.Reading.{not_found}
use Rattle.order.proofs.Lines.{at_left, at_right}
use Rattle.form.specs.Text.{Line, lines_of, lines_f}
use Rattle.form.specs.Faults.{NoDeeper}
use Rattle.form.proofs.TreeLines.{deeper, row_low, lines-count}

-- Lines begin with those of a tree, and go on with none or with one of its level or above.
pub record TreeFirst (s : Tree) (xs : List Line) : Type 0 where
  pub level : ℕ
  pub rest : List Line
  pub is : xs ≡ lines_of s level ++ rest
  pub ends : NoDeeper level rest

-- A place behind the lines of a tree.
past-tree : (t : Tree) (l : ℕ) (xs : List Line) (i : ℕ) → length (subtrees t) ≤ i → drop (i - length (subtrees t)) xs ≡ drop i (lines_of t l ++ xs)
past-tree t l xs i h =
    let n : i ≡ length (lines_of t l) + (i - length (subtrees t)) = omega (arith, lines-count t l) in
    sym (ap (λ (j : ℕ). drop j (lines_of t l ++ xs)) n ∙ drop-append-add (lines_of t l) xs (i - length (subtrees t)))

-- Each subtree of a tree, and of a row of trees, has its lines there, before whatever follows that is low enough.
mutual
  unfolding lines_of subtrees tree_at

  pub tree-first : (t : Tree) (l : ℕ) (r : List Line) → NoDeeper l r → (i : ℕ) (s : Tree) → tree_at (subtrees t) i ≡ found s → TreeFirst s (drop i (lines_of t l ++ r))
  tree-first (node c f) l r o zero s e = let z : node c f ≡ s = cc in subst (λ (u : Tree). TreeFirst u (lines_of (node c f) l ++ r)) z (record { level = l; rest = r; is = refl; ends = o })
  tree-first (node c f) l r o (suc i) s e = row_first f (suc l) r (deeper l r o) i s e

  row_first : (f : Forest) (l : ℕ) (r : List Line) → NoDeeper l r → (i : ℕ) (s : Tree) → tree_at (subtrees_f f) i ≡ found s → TreeFirst s (drop i (lines_f f l ++ r))
  row_first bare l r o i s e = not_found e
  row_first (cons t f) l r o i s e =
      let one : drop i (lines_of t l ++ (lines_f f l ++ r)) ≡ drop i ((lines_of t l ++ lines_f f l) ++ r) = ap (drop i) (sym (append_assoc (lines_of t l) (lines_f f l) r)) in
      elim (dec_lt i (length (subtrees t))) [
        | yes h ↦ subst (TreeFirst s) one (tree-first t l (lines_f f l ++ r) (row_low f l r o) i s (sym (at_left (subtrees t) (subtrees_f f) i h) ∙ e))
        | no h ↦
            let past : length (subtrees t) ≤ i = omega arith in
            let it = row_first f l r o (i - length (subtrees t)) s (sym (at_right (subtrees t) (subtrees_f f) i past) ∙ e) in
            subst (TreeFirst s) (past-tree t l (lines_f f l ++ r) i past ∙ one) it
      ]

-- The lines of a tree, and of a row of trees, have no lower level than its top.
mutual
  unfolding lines_of

  tree-above : (t : Tree) (l m : ℕ) → l < m → (y : Line) → y ∈ lines_of t m → l < y.level
  tree-above (node c f) l m h y (here e) = omega (arith, ap (λ (x : Line). x.level) e)
  tree-above (node c f) l m h y (there q) = row-above f l (suc m) (omega arith) y q

  pub row-above : (f : Forest) (l m : ℕ) → l < m → (y : Line) → y ∈ lines_f f m → l < y.level
  row-above bare l m h y q = absurd (Memᴰ.not-nil q)
  row-above (cons t f) l m h y q = elim (Memᴰ.append_cases (lines_of t m) q) [ inl p ↦ tree-above t l m h y p | inr p ↦ row-above f l m h y p ]
