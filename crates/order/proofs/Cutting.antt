-- Laws of cuts (01, "Parts": "Cut(t, d) keeps the nodes of depth at most d"), and of the subtrees: those of a good tree are good, and
-- have no more nodes than the tree. Assumes nothing.
use Prim.Native.Nat.{ℕ, zero, suc, ◌≤◌, min}
use mathlib.Core.Path.{◌≡◌, refl, ap, ap₂, sym, subst}
use mathlib.Core.Logic.{inl, inr}
use mathlib.Core.List.Memᴰ
use mathlib.Core.List.Memᴰ.{head as here}
use mathlib.Core.List.Memᴰ.{tail as there}
use native.Mathlib.Omega.{arith}
use lib.ListN.{length, length-append}
use Rattle.words.specs.Base.{◌∈◌}
use Rattle.order.specs.Trees.{Tree, Forest, node, bare, cons, count, depth, depth_f, cut, cut_f, subtrees, subtrees_f, Good, GoodF}

-- ---- cuts

-- The cut at d is as deep as the tree, but at most d deep.
mutual
  unfolding depth cut

  pub depth-cut : (t : Tree) (d : ℕ) → depth (cut t d) ≡ min d (depth t)
  depth-cut (node c f) zero = omega arith
  depth-cut (node c f) (suc d) = depth-cut_f f d

  depth-cut_f : (f : Forest) (d : ℕ) → depth_f (cut_f f d) ≡ min (suc d) (depth_f f)
  depth-cut_f bare d = omega arith
  depth-cut_f (cons t f) d = omega (arith, depth-cut t d, depth-cut_f f d)

-- The cut at d is at most d deep.
pub cut-depth : (t : Tree) (d : ℕ) → depth (cut t d) ≤ d
cut-depth t d = omega (arith, depth-cut t d)

-- The cut at d of a tree that is at least d deep is d deep.
pub cut-deep : (t : Tree) (d : ℕ) → d ≤ depth t → depth (cut t d) ≡ d
cut-deep t d h = omega (arith, depth-cut t d)

-- The cut of a tree that is at most d deep is the tree.
mutual
  unfolding depth cut

  pub cut-shallow : (t : Tree) (d : ℕ) → depth t ≤ d → cut t d ≡ t
  cut-shallow (node c bare) zero h = refl
  cut-shallow (node c (cons t f)) zero h = absurd (omega arith)
  cut-shallow (node c f) (suc d) h = ap (node c) (cut_f_shallow f d h)

  cut_f_shallow : (f : Forest) (d : ℕ) → depth_f f ≤ suc d → cut_f f d ≡ f
  cut_f_shallow bare d h = refl
  cut_f_shallow (cons t f) d h = ap₂ cons (cut-shallow t d (omega arith)) (cut_f_shallow f d (omega arith))

-- The cut at d of a cut that goes as deep is the cut at d.
mutual
  unfolding cut

  pub cut-cut : (t : Tree) (a d : ℕ) → d ≤ a → cut (cut t a) d ≡ cut t d
  cut-cut (node c f) zero zero h = refl
  cut-cut (node c f) zero (suc d) h = absurd (omega arith)
  cut-cut (node c f) (suc a) zero h = refl
  cut-cut (node c f) (suc a) (suc d) h = ap (node c) (cut_f_cut_f f a d (omega arith))

  cut_f_cut_f : (f : Forest) (a d : ℕ) → d ≤ a → cut_f (cut_f f a) d ≡ cut_f f d
  cut_f_cut_f bare a d h = refl
  cut_f_cut_f (cons t f) a d h = ap₂ cons (cut-cut t a d h) (cut_f_cut_f f a d h)

-- A cut row has as many trees.
pub count_cut : (f : Forest) (d : ℕ) → count (cut_f f d) ≡ count f
unfolding count cut_f
count_cut bare d = refl
count_cut (cons t f) d = ap suc (count_cut f d)

-- The cut of a good tree is good.
mutual
  unfolding cut count Good

  pub cut-good : (t : Tree) (d : ℕ) → Good t → Good (cut t d)
  cut-good (node c f) zero g = ((g.0.0, g.0.1, omega arith), tt)
  cut-good (node c f) (suc d) g = ((g.0.0, g.0.1, rw (count_cut f d) g.0.2), cut-good_f f d g.1)

  cut-good_f : (f : Forest) (d : ℕ) → GoodF f → GoodF (cut_f f d)
  cut-good_f bare d g = tt
  cut-good_f (cons t f) d g = (cut-good t d g.0, cut-good_f f d g.1)

-- The cut has no more nodes than the tree.
mutual
  unfolding cut subtrees

  pub cut-nodes : (t : Tree) (d : ℕ) → length (subtrees (cut t d)) ≤ length (subtrees t)
  cut-nodes (node c f) zero = omega arith
  cut-nodes (node c f) (suc d) = omega (arith, cut-nodes_f f d)

  cut-nodes_f : (f : Forest) (d : ℕ) → length (subtrees_f (cut_f f d)) ≤ length (subtrees_f f)
  cut-nodes_f bare d = omega arith
  cut-nodes_f (cons t f) d =
      omega (arith, cut-nodes t d, cut-nodes_f f d, length-append (subtrees t) (subtrees_f f), length-append (subtrees (cut t d)) (subtrees_f (cut_f f d)))

-- ---- subtrees

-- A subtree of a good tree is good.
mutual
  unfolding subtrees Good

  pub subtree-good : (t : Tree) {s : Tree} → s ∈ subtrees t → Good t → Good s
  subtree-good (node c f) (here e) g = subst Good (sym e) g
  subtree-good (node c f) (there m) g = subtree-good_f f m g.1

  subtree-good_f : (f : Forest) {s : Tree} → s ∈ subtrees_f f → GoodF f → Good s
  subtree-good_f bare m g = absurd (Memᴰ.not-nil m)
  subtree-good_f (cons t f) m g =
      elim (Memᴰ.append_cases (subtrees t) m) [
        | inl n ↦ subtree-good t n g.0
        | inr n ↦ subtree-good_f f n g.1
      ]

-- A subtree has no more nodes than the tree.
mutual
  unfolding subtrees

  pub subtree-nodes : (t : Tree) {s : Tree} → s ∈ subtrees t → length (subtrees s) ≤ length (subtrees t)
  subtree-nodes (node c f) (here e) = omega (arith, ap (λ (u : Tree). length (subtrees u)) e)
  subtree-nodes (node c f) (there m) = omega (arith, subtree-nodes_f f m)

  subtree-nodes_f : (f : Forest) {s : Tree} → s ∈ subtrees_f f → length (subtrees s) ≤ length (subtrees_f f)
  subtree-nodes_f bare m = absurd (Memᴰ.not-nil m)
  subtree-nodes_f (cons t f) m =
      elim (Memᴰ.append_cases (subtrees t) m) [
        | inl n ↦ omega (arith, subtree-nodes t n, length-append (subtrees t) (subtrees_f f))
        | inr n ↦ omega (arith, subtree-nodes_f f n, length-append (subtrees t) (subtrees_f f))
      ]
