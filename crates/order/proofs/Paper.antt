-- The depth, the subtrees and the parts of 01 are those of document 000 (sections II and III). Assumes nothing.
use Rattle.std.specs.Prelude.{Option, None, Some}
use Prim.Native.Nat.{ℕ, zero, suc, ◌+◌, ◌-◌, ◌≤◌, ◌<◌}
use mathlib.Core.Path.{◌≡◌, refl, ap, ap₂, sym, ◌∙◌}
use mathlib.Core.Bool.{not}
use mathlib.Core.Logic.{inl, inr}
use mathlib.Core.List.Memᴰ
use mathlib.Core.List.Memᴰ.{head as here}
use mathlib.Core.List.Memᴰ.{tail as there}
use mathlib.Core.List.{List, [], ◌∷◌, ◌++◌}
use native.Mathlib.Decide.{dec_lt}
use native.Mathlib.Omega.{arith}
use borrow.Author.Tests.{leb-true, le-leb, lt-leb}
use lib.ListN.{length}
use Rattle.words.proofs.Tests.{never}
use Rattle.words.specs.Base.{keep, ◌∈◌}
use Rattle.order.specs.Trees.{Tree, Forest, node, bare, cons, depth, depth_f, cut, cut_f, subtrees, subtrees_f, below}
use Rattle.order.specs.Reading.{by_found, TreeFound, missing, found}
use Rattle.order.specs.Parts.{top, is_low, lows, middle, is_middle, middles, low_parts, middle_parts}
use Rattle.order.specs.Paper.{Position, child_of, code, rooted_at, label_at, Subtree, StrictlyBelow, InDomain, IsDepth, IsR, IsL, IsP}
use Rattle.order.proofs.Reading.{not_found}
use Rattle.order.proofs.Cutting.{cut-depth, cut-deep, cut-shallow}
use Rattle.order.proofs.Once.{kept_in, in_kept, once_from, once_to}

-- ---- positions

-- What stands at i ∷ x below a node with this row of children.
abbrev rooted_in : ℕ → Position → Forest → TreeFound
rooted_in i x f = by_found (child_of i f) missing (rooted_at x)

-- The label there.
abbrev label_in : ℕ → Position → Forest → Option ℕ
label_in i x f = by_found (rooted_in i x f) None (λ s. Some (code s))

-- What has no label has none.
no_label : {A : Type 0} {c : ℕ} → None ≡ Some c → A
no_label e = never cc

-- Children are counted from 1: there is no child 0.
no_child : (f : Forest) → child_of zero f ≡ missing
unfolding child_of
no_child bare = refl
no_child (cons t f) = refl

-- A position below a row is one child further on below the row with one more in front.
next-child : (i : ℕ) (x : Position) {s : Tree} (t : Tree) (f : Forest) → rooted_in i x f ≡ found s
    → rooted_in (suc i) x (cons t f) ≡ found s
unfolding child_of by_found
next-child zero x t f e = not_found (rw (no_child f) at e)
next-child (suc i) x t f e = e

-- ---- depth and subtrees

-- The length of a position and the depth of the subtree there come to at most the depth of the tree.
mutual
  unfolding depth rooted_at child_of by_found

  rooted_depth : (t : Tree) (x : Position) (s : Tree) → rooted_at x t ≡ found s → length x + depth s ≤ depth t
  rooted_depth (node c f) [] s e = let is : node c f ≡ s = cc in rw (← is) (omega arith)
  rooted_depth (node c f) (i ∷ x) s e = rooted_depth_f f i x s e

  rooted_depth_f : (f : Forest) (i : ℕ) (x : Position) (s : Tree) → rooted_in i x f ≡ found s → suc (length x) + depth s ≤ depth_f f
  rooted_depth_f bare i x s e = not_found e
  rooted_depth_f (cons t f) zero x s e = not_found e
  rooted_depth_f (cons t f) (suc zero) x s e = omega (arith, rooted_depth t x s e)
  rooted_depth_f (cons t f) (suc (suc i)) x s e = omega (arith, rooted_depth_f f (suc i) x s e)

-- No position is longer than the tree is deep.
within-depth : (t : Tree) (x : Position) → InDomain t x → length x ≤ depth t
within-depth t x a = omega (arith, rooted_depth t x a.subtree a.is)

-- A subtree is no deeper than the tree.
pub subtree-depth : {t s : Tree} → Subtree t s → depth s ≤ depth t
subtree-depth {t} {s} a = omega (arith, rooted_depth t a.position s a.is)

-- Some position is as long as the tree is deep.
abbrev Reached : Tree → ℕ → Type 0
Reached t d = (x : Position) × InDomain t x × (length x ≡ d)

-- The deepest position below a node lies below its first child or below the others.
deeper : (c : ℕ) (t : Tree) (f : Forest) → Reached t (depth t) → Reached (node c f) (depth_f f)
    → Reached (node c (cons t f)) (depth_f (cons t f))
unfolding depth rooted_at child_of by_found
deeper c t f r q =
    elim (dec_lt (suc (depth t)) (depth_f f)) [
      | yes h ↦ later q.0 q.1 q.2 h
      | no h ↦ (1 ∷ r.0, record { subtree = r.1.subtree; is = r.1.is }, omega arith)
    ]
  where
    later : (x : Position) → InDomain (node c f) x → length x ≡ depth_f f → suc (depth t) < depth_f f
        → Reached (node c (cons t f)) (depth_f (cons t f))
    later [] a e h = absurd (omega arith)
    later (i ∷ x) a e h = (suc i ∷ x, record { subtree = a.subtree; is = next-child i x t f a.is }, omega arith)

-- So every tree and every row has one.
mutual
  unfolding depth rooted_at

  deepest : (t : Tree) → Reached t (depth t)
  deepest (node c f) = deepest_f f c

  deepest_f : (f : Forest) (c : ℕ) → Reached (node c f) (depth_f f)
  deepest_f bare c = ([], record { subtree = node c bare; is = refl }, refl)
  deepest_f (cons t f) c = deeper c t f (deepest t) (deepest_f f c)

-- The depth is the greatest length of a position.
pub depth_is : (t : Tree) → IsDepth t (depth t)
depth_is t = let d = deepest t in record { position = d.0; there = d.1; reached = d.2; most = within-depth t }

-- No other number is the depth.
pub depth-only : {t : Tree} {d e : ℕ} → IsDepth t d → IsDepth t e → d ≡ e
depth-only a b = omega (arith, a.most b.position b.there, b.most a.position a.there)

-- The subtrees of 01 are the trees t/x.
mutual
  unfolding subtrees rooted_at child_of by_found

  pub subtree-from : (t : Tree) {s : Tree} → s ∈ subtrees t → Subtree t s
  subtree-from (node c f) (here e) = record { position = []; is = ap found (sym e) }
  subtree-from (node c f) (there m) = let r = subtree_f_from f m in record { position = r.0 ∷ r.1; is = r.2 }

  subtree_f_from : (f : Forest) {s : Tree} → s ∈ subtrees_f f → (i : ℕ) × (x : Position) × (rooted_in i x f ≡ found s)
  subtree_f_from bare m = absurd (Memᴰ.not-nil m)
  subtree_f_from (cons t f) m =
      elim (Memᴰ.append_cases (subtrees t) m) [
        | inl n ↦ let r = subtree-from t n in (1, r.position, r.is)
        | inr n ↦ let r = subtree_f_from f n in (suc r.0, r.1, next-child r.0 r.1 t f r.2)
      ]

-- A tree at a position is one of the subtrees.
mutual
  unfolding subtrees rooted_at child_of by_found

  rooted_in_lem : (t : Tree) (x : Position) {s : Tree} → rooted_at x t ≡ found s → s ∈ subtrees t
  rooted_in_lem (node c f) [] {s} e = let is : s ≡ node c f = cc in here is
  rooted_in_lem (node c f) (i ∷ x) e = there (rooted_in_f f i x e)

  rooted_in_f : (f : Forest) (i : ℕ) (x : Position) {s : Tree} → rooted_in i x f ≡ found s → s ∈ subtrees_f f
  rooted_in_f bare i x e = not_found e
  rooted_in_f (cons t f) zero x e = not_found e
  rooted_in_f (cons t f) (suc zero) x e = Memᴰ.append_left (subtrees_f f) (rooted_in_lem t x e)
  rooted_in_f (cons t f) (suc (suc i)) x e = Memᴰ.append_right (subtrees t) (rooted_in_f f (suc i) x e)

-- And each t/x is one of them.
pub subtree-to : {t s : Tree} → Subtree t s → s ∈ subtrees t
subtree-to {t} a = rooted_in_lem t a.position a.is

-- What stands strictly below a tree's own line is t/x for a position x other than λ,
pub below-from : (t : Tree) {s : Tree} → s ∈ below t → StrictlyBelow t s
unfolding below rooted_at
below-from (node c f) m =
    let r = subtree_f_from f m in
    record { position = r.0 ∷ r.1; not_top = λ e. never cc; is = r.2 }

-- and each such t/x stands there.
pub below-to : {t s : Tree} → StrictlyBelow t s → s ∈ below t
unfolding below rooted_at
below-to {t} {s} a = go t a.position a.not_top a.is
  where
    -- By the position.
    go : (u : Tree) (x : Position) → (x ≡ [] → ⊥) → rooted_at x u ≡ found s → s ∈ below u
    go u [] n e = absurd (n refl)
    go (node c f) (i ∷ x) n e = rooted_in_f f i x e

-- ---- a tree is its mapping

-- Rows with the same labels have the same labels past their first trees.
next-labels : (t u : Tree) (f g : Forest) → ((i : ℕ) (x : Position) → label_in i x (cons t f) ≡ label_in i x (cons u g))
    → (i : ℕ) (x : Position) → label_in i x f ≡ label_in i x g
unfolding child_of by_found
next-labels t u f g h zero x = rw (no_child f, no_child g)
next-labels t u f g h (suc i) x = h (suc (suc i)) x

-- Trees with the same mapping are one, and so are rows.
mutual
  unfolding label_at rooted_at child_of by_found

  same-mapping : (t u : Tree) → ((x : Position) → label_at x t ≡ label_at x u) → t ≡ u
  same-mapping (node c f) (node d g) h =
      let top : Some c ≡ Some d = h [] in
      ap₂ node (cc) (same-labels f g (λ i x. h (i ∷ x)))

  same-labels : (f g : Forest) → ((i : ℕ) (x : Position) → label_in i x f ≡ label_in i x g) → f ≡ g
  same-labels bare bare h = refl
  same-labels bare (cons u g) h = no_label (h 1 [])
  same-labels (cons t f) bare h = no_label (sym (h 1 []))
  same-labels (cons t f) (cons u g) h = ap₂ cons (same-mapping t u (h 1)) (same-labels f g (next-labels t u f g h))

-- t/x is the document's: its domain is the positions y with x.y in dom(t), and its label at y is that of t at x.y. (A label is none
-- outside the domain, so that this says both.)
mutual
  unfolding label_at rooted_at child_of by_found

  rooted_label : (t : Tree) (x y : Position) {s : Tree} → rooted_at x t ≡ found s → label_at y s ≡ label_at (x ++ y) t
  rooted_label (node c f) [] y {s} e = let is : node c f ≡ s = cc in rw (← is) refl
  rooted_label (node c f) (i ∷ x) y e = rooted_label_f f i x y e

  rooted_label_f : (f : Forest) (i : ℕ) (x y : Position) {s : Tree} → rooted_in i x f ≡ found s → label_at y s ≡ label_in i (x ++ y) f
  rooted_label_f bare i x y e = not_found e
  rooted_label_f (cons t f) zero x y e = not_found e
  rooted_label_f (cons t f) (suc zero) x y e = rooted_label t x y e
  rooted_label_f (cons t f) (suc (suc i)) x y e = rooted_label_f f (suc i) x y e

-- ---- r, the cut

-- A cut has the labels of the tree as far down as it goes.
mutual
  unfolding label_at rooted_at child_of by_found cut

  cut-label : (t : Tree) (d : ℕ) (x : Position) → length x ≤ d → label_at x (cut t d) ≡ label_at x t
  cut-label (node c f) zero [] h = refl
  cut-label (node c f) (suc d) [] h = refl
  cut-label (node c f) zero (i ∷ x) h = absurd (omega arith)
  cut-label (node c f) (suc d) (i ∷ x) h = cut-label_f f d i x (omega arith)

  cut-label_f : (f : Forest) (d i : ℕ) (x : Position) → length x ≤ d → label_in i x (cut_f f d) ≡ label_in i x f
  cut-label_f bare d i x h = refl
  cut-label_f (cons t f) d zero x h = refl
  cut-label_f (cons t f) d (suc zero) x h = cut-label t d x h
  cut-label_f (cons t f) d (suc (suc i)) x h = cut-label_f f d (suc i) x h

-- A position with the same label in two trees is in both domains or in neither.
same-domain : (t u : Tree) (x : Position) → label_at x t ≡ label_at x u → InDomain t x → InDomain u x
unfolding label_at by_found
same-domain t u x e a = go (rooted_at x u) refl
  where
    go : (r : TreeFound) → rooted_at x u ≡ r → InDomain u x
    go missing p = no_label (sym (rw (p, a.is) at e))
    go (found s) p = record { subtree = s; is = p }

-- The cut at n-1 is r of index n.
pub cut-is_r : (t : Tree) (n : ℕ) → 1 ≤ n → IsR n t (cut t (n - 1))
cut-is_r t n l =
    let d : ℕ = n - 1 in
    let short : (x : Position) → InDomain (cut t d) x → length x ≤ d = λ x a. omega (arith, within-depth (cut t d) x a, cut-depth t d) in
    record {
      shallow = cut-shallow t d;
      deep = λ h. cut-deep t d (omega arith);
      domain = λ h x a. (same-domain (cut t d) t x (cut-label t d x (short x a)) a, short x a);
      whole = λ h x a s. same-domain t (cut t d) x (sym (cut-label t d x s)) a;
      labels = λ h x a. cut-label t d x (short x a);
    }

-- Two trees that are r have the same domain.
r_domain : {t u v : Tree} (n : ℕ) → n - 1 < depth t → IsR n t u → IsR n t v → (x : Position) → InDomain u x → InDomain v x
r_domain n h a b x i = let r = a.domain h x i in b.whole h x r.0 r.1

-- Nothing else is r.
pub r_only : {t u v : Tree} (n : ℕ) → 1 ≤ n → IsR n t u → IsR n t v → u ≡ v
unfolding label_at by_found
r_only {t} {u} {v} n l a b =
    elim (dec_lt (n - 1) (depth t)) [
      | yes h ↦ same-mapping u v (λ x. go h x (rooted_at x u) (rooted_at x v) refl refl)
      | no h ↦ a.shallow (omega arith) ∙ sym (b.shallow (omega arith))
    ]
  where
    go : n - 1 < depth t → (x : Position) (r q : TreeFound) → rooted_at x u ≡ r → rooted_at x v ≡ q → label_at x u ≡ label_at x v
    go h x missing missing p q = rw (p, q)
    go h x missing (found s) p q = not_found (sym p ∙ (r_domain n h b a x (record { subtree = s; is = q })).is)
    go h x (found s) r p q =
        let i : InDomain u x = record { subtree = s; is = p } in
        a.labels h x i ∙ sym (b.labels h x (r_domain n h a b x i))

-- So what is r of index n is the cut at n-1.
pub r_cut : {t u : Tree} (n : ℕ) → 1 ≤ n → IsR n t u → u ≡ cut t (n - 1)
r_cut {t} n l r = r_only n l r (cut-is_r t n l)

-- The top is r of index k-1.
pub top-is_r : (k : ℕ) (t : Tree) → 2 ≤ k → IsR (k - 1) t (top k t)
unfolding top
top-is_r k t l = let e : k - 1 - 1 ≡ k - 2 = omega arith in rw e at (cut-is_r t (k - 1) (omega arith))

-- At k = 2 the top is r of index 1, the node alone, which document 001 calls the 0-root.
pub first-top : (c : ℕ) (f : Forest) → top 2 (node c f) ≡ node c bare
unfolding top cut
first-top c f = refl

-- ---- l, the low parts, and p, the middle parts

module _ (k : ℕ) {t s : Tree} (two : 2 ≤ k) where
  -- The low parts are l of index k-1.
  pub low-is_l : s ∈ low_parts k t → IsL (k - 1) t s
  unfolding low_parts lows is_low
  low-is_l m =
      let r = kept_in (is_low k) (subtrees t) (once_from _ m) in
      record { subtree = subtree-from t r.0; shallow = omega (arith, leb-true (depth s) (k - 2) r.1) }

  -- And all of l are low parts.
  pub l_is-low : IsL (k - 1) t s → s ∈ low_parts k t
  unfolding low_parts lows is_low
  l_is-low a = once_to (in_kept (is_low k) (subtree-to a.subtree) (le-leb (depth s) (k - 2) (omega arith)))

  -- The middle parts are p of index k.
  pub middle-is_p : s ∈ middle_parts k t → IsP k t s
  unfolding middle_parts middles is_middle middle
  middle-is_p m =
      let q = Memᴰ.of_map (middle k) (keep (is_middle k) (subtrees t)) (once_from _ m) in
      let r = kept_in (is_middle k) (subtrees t) q.1 in
      let from : Subtree t q.0 = subtree-from t r.0 in
      let deep : k - 1 ≤ depth q.0 = leb-true (k - 1) (depth q.0) r.1 in
      record {
        some_middle = omega (arith, subtree-depth from);
        uncut = q.0;
        subtree = from;
        deep = deep;
        is = rw q.2 at (cut-is_r q.0 k (omega arith));
      }

  -- And all of p are middle parts.
  pub p_is-middle : IsP k t s → s ∈ middle_parts k t
  unfolding middle_parts middles is_middle middle
  p_is-middle a =
      let kept = in_kept (is_middle k) (subtree-to a.subtree) (le-leb (k - 1) (depth a.uncut) a.deep) in
      let is : s ≡ middle k a.uncut = r_only k (omega arith) a.is (cut-is_r a.uncut k (omega arith)) in
      once_to (Memᴰ.cast is (Memᴰ.map (middle k) kept))

-- A list without members is empty.
no_members : {A : Type 0} (l : List A) → ((a : A) → a ∈ l → ⊥) → l ≡ []
no_members [] h = refl
no_members (a ∷ l) h = absurd (h a (here refl))

-- A tree less than k-1 deep has no middle part.
pub no_middle : (k : ℕ) (t : Tree) → depth t < k - 1 → middle_parts k t ≡ []
no_middle k t h = no_members (middle_parts k t) (λ u m. let p : IsP k t u = middle-is_p k (omega arith) m in omega arith)

-- Every subtree is low or middle, and never both.
pub low-or_middle : (k : ℕ) (s : Tree) → 2 ≤ k → is_middle k s ≡ not (is_low k s)
unfolding is_low is_middle
low-or_middle k s l =
    elim (dec_lt (k - 2) (depth s)) [
      | yes h ↦ rw (lt-leb (depth s) (k - 2) h, le-leb (k - 1) (depth s) (omega arith))
      | no h ↦ rw (le-leb (depth s) (k - 2) (omega arith), lt-leb (k - 1) (depth s) (omega arith))
    ]
