-- The parts that the lines of an order stand for are its low and middle parts, which are l and p of document 000: each line's part is
-- one of them, and each of them is the part of a line. Assumes nothing.
use Prim.Native.Nat.{ℕ, zero, suc, ◌-◌, ◌≤◌}
use mathlib.Core.Path.{◌≡◌, ap, sym}
use mathlib.Core.List.Memᴰ.{head as here}
use mathlib.Core.List.Memᴰ.{tail as there}
use mathlib.Core.List.{List, [], ◌∷◌}
use native.Mathlib.Omega.{arith}
use borrow.Author.Tests.{leb-true, leb-false, le-leb, lt-leb}
use lib.Dec.{leb}
use Rattle.words.proofs.Tests.{by_test, never}
use Rattle.words.specs.Base.{when◌then◌else◌, ◌∈◌}
use Rattle.order.specs.Trees.{Tree, depth, cut, subtrees}
use Rattle.order.specs.Reading.{found}
use Rattle.order.specs.Answers.{tree_at, tree_of_line}
use Rattle.order.specs.Parts.{is_low, middle, part_of}
use Rattle.order.specs.Paper.{IsL, IsP}
use Rattle.order.specs.declared.Kind.TheVariants.{Low, Middle}
use Rattle.order.proofs.Reading.{not_found}
use Rattle.order.proofs.Paper.{subtree-from, subtree-to, subtree-depth, cut-is_r, r_only}

-- ---- lines

-- s is the subtree of this line of t.
pub record OnLine (t s : Tree) (line : ℕ) : Type 0 where
  pub is : tree_of_line line (subtrees t) ≡ found s

-- The tree at a place is a member of the list.
pub at_in : (ts : List Tree) (i : ℕ) {s : Tree} → tree_at ts i ≡ found s → s ∈ ts
unfolding tree_at
at_in [] i e = not_found e
at_in (t ∷ ts) zero {s} e = let z : s ≡ t = cc in here z
at_in (t ∷ ts) (suc i) e = there (at_in ts i e)

-- Each member of a list has a place.
pub in_at : {s : Tree} {ts : List Tree} → s ∈ ts → (i : ℕ) × (tree_at ts i ≡ found s)
unfolding tree_at
in_at (here e) = (0, ap found (sym e))
in_at (there m) = let r = in_at m in (suc r.0, r.1)

-- A line's tree is a subtree.
pub line-in : (t s : Tree) (line : ℕ) → OnLine t s line → s ∈ subtrees t
unfolding tree_of_line
line-in t s zero l = not_found l.is
line-in t s (suc i) l = at_in (subtrees t) i l.is

-- A subtree has a line.
pub in_line : {t s : Tree} → s ∈ subtrees t → (line : ℕ) × OnLine t s line
unfolding tree_of_line
in_line m = let r = in_at m in (suc r.0, record { is = r.1 })

-- ---- what a line stands for

-- A subtree of depth at most k-2 stands for itself.
low_part : (k : ℕ) (s : Tree) → depth s ≤ k - 2 → part_of k s ≡ record { kind = Low; tree = s }
unfolding part_of is_low when◌then◌else◌
low_part k s h = rw (le-leb (depth s) (k - 2) h)

-- A subtree of depth at least k-1 stands for its cut at k-1.
middle-part : (k : ℕ) (s : Tree) → 2 ≤ k → k - 1 ≤ depth s → part_of k s ≡ record { kind = Middle; tree = cut s (k - 1) }
unfolding part_of is_low middle when◌then◌else◌
middle-part k s l h = rw (lt-leb (depth s) (k - 2) (omega arith))

-- A low line is at most k-2 deep.
is-low : (k : ℕ) (s : Tree) → (part_of k s).kind ≡ Low → depth s ≤ k - 2
unfolding part_of is_low when◌then◌else◌
is-low k s e = by_test (leb (depth s) (k - 2)) (λ h. leb-true (depth s) (k - 2) h) (λ h. absurd (let f : Middle ≡ Low = rw h at e in never cc))

-- A middle line is at least k-1 deep.
is-middle : (k : ℕ) (s : Tree) → (part_of k s).kind ≡ Middle → k - 1 ≤ depth s
unfolding part_of is_low when◌then◌else◌
is-middle k s e =
    by_test (leb (depth s) (k - 2))
    (λ h. absurd (let f : Low ≡ Middle = rw h at e in never cc))
    (λ h. omega (arith, leb-false (depth s) (k - 2) h))

module _ (k : ℕ) (t : Tree) (two : 2 ≤ k) where
  -- A low line's part is in l.
  pub low-line : (s : Tree) (line : ℕ) → OnLine t s line → (part_of k s).kind ≡ Low → IsL (k - 1) t (part_of k s).tree
  low-line s line l e =
      let h : depth s ≤ k - 2 = is-low k s e in
      rw (low_part k s h) (record { subtree = subtree-from t (line-in t s line l); shallow = omega arith })

  -- A middle line's part is in p.
  pub middle-line : (s : Tree) (line : ℕ) → OnLine t s line → (part_of k s).kind ≡ Middle → IsP k t (part_of k s).tree
  middle-line s line l e =
      let h : k - 1 ≤ depth s = is-middle k s e in
      let m = subtree-from t (line-in t s line l) in
      rw (middle-part k s two h) (record { some_middle = omega (arith, subtree-depth m); uncut = s; subtree = m; deep = h; is = cut-is_r s k (omega arith) })

  -- What is in l is the part of a line.
  pub l_has-line : (u : Tree) → IsL (k - 1) t u → (line : ℕ) × OnLine t u line × (part_of k u ≡ record { kind = Low; tree = u })
  l_has-line u a = let r = in_line (subtree-to a.subtree) in (r.0, r.1, low_part k u (omega arith))

  -- What is in p is the part of the line of its uncut subtree.
  pub p_has-line : (u : Tree) (a : IsP k t u) → (line : ℕ) × OnLine t a.uncut line × (part_of k a.uncut ≡ record { kind = Middle; tree = u })
  p_has-line u a =
      let r = in_line (subtree-to a.subtree) in
      let e : cut a.uncut (k - 1) ≡ u = r_only k (omega arith) (cut-is_r a.uncut k (omega arith)) a.is in
      (r.0, r.1, rw (← e) (middle-part k a.uncut two a.deep))
