-- The laws of reading words as trees: what is read is what `words` writes (sound), and what `words` writes is read (complete).
-- Assumes nothing.
use mathlib.Core.Path.{◌≡◌, refl, ap, sym, ◌∙◌}
use mathlib.Core.List.{List, [], ◌∷◌, ◌++◌, append_assoc}
use mathlib.Core.Bool.{Bool, true, false}
use Prim.Native.Nat.{ℕ, zero, suc, ◌+◌, ◌≤◌}
use native.Mathlib.Nat.{zero-add, suc-add}
use native.Mathlib.Omega.{arith}
use borrow.Author.Tests.{leb-true, le-leb}
use lib.Dec.{leb}
use Rattle.words.specs.Base.{◌and◌}
use Rattle.words.proofs.Tests.{and_left, and_right, and_both, never}
use Rattle.figures.specs.Limits.{least_code, greatest_code, most_children}
use Rattle.figures.specs.Nodes.{sound_node}
use Rattle.order.specs.Trees.{Tree, node, Forest, bare, cons, count, words, words_f, Good, GoodF}
use Rattle.order.specs.Reading.{missing, found, Reading, broken, read, first_trees, later_trees, node_over, read_trees}

-- A tree that is missing is not found.
pub not_found : {A : Type 0} {t : Tree} → missing ≡ found t → A
not_found e = never cc

-- Two rows of trees one after the other.
abbrev pub join : Forest → Forest → Forest
join bare g = g
join (cons t f) g = cons t (join f g)

-- A tree put before what was read.
abbrev pub add_t : Tree → Reading → Reading
add_t t broken = broken
add_t t (read f r) = read (cons t f) r

-- A row put before what was read.
abbrev pub add_f : Forest → Reading → Reading
add_f g broken = broken
add_f g (read f r) = read (join g f) r

-- Of a row that is split after k trees the first part has k.
pub count-take : (k n : ℕ) (f : Forest) → count f ≡ k + n → count (first_trees k f) ≡ k
unfolding count first_trees
count-take zero n f e = refl
count-take (suc k) n bare e = omega arith
count-take (suc k) n (cons t f) e = ap suc (count-take k n f (omega arith))

-- The second part has the other trees.
count-drop : (k n : ℕ) (f : Forest) → count f ≡ k + n → count (later_trees k f) ≡ n
unfolding count later_trees
count-drop zero n f e = omega arith
count-drop (suc k) n bare e = omega arith
count-drop (suc k) n (cons t f) e = count-drop k n f (omega arith)

-- The words of the parts are those of the row.
words-split : (k : ℕ) (f : Forest) → words_f (first_trees k f) ++ words_f (later_trees k f) ≡ words_f f
unfolding words_f first_trees later_trees
words-split zero f = refl
words-split (suc k) bare = refl
words-split (suc k) (cons t f) = append_assoc (words t) (words_f (first_trees k f)) (words_f (later_trees k f)) ∙ ap (λ (l : List ℕ). words t ++ l) (words-split k f)

-- The first part of a good row is good.
good-take : (k : ℕ) (f : Forest) → GoodF f → GoodF (first_trees k f)
unfolding GoodF first_trees
good-take zero f g = tt
good-take (suc k) bare g = tt
good-take (suc k) (cons t f) g = (g.0, good-take k f g.1)

-- So is the second.
good-drop : (k : ℕ) (f : Forest) → GoodF f → GoodF (later_trees k f)
unfolding GoodF later_trees
good-drop zero f g = g
good-drop (suc k) bare g = tt
good-drop (suc k) (cons t f) g = good-drop k f g.1

-- A node that is sound is one that a good tree may have.
ok_node : (c k : ℕ) (f : Forest) → sound_node c k ≡ true → count f ≡ k → (least_code ≤ c) × (c ≤ greatest_code) × (count f ≤ most_children)
unfolding sound_node
ok_node c k f e m =
    let a : (leb least_code c and leb c greatest_code) ≡ true = and_left _ _ e in
    (leb-true _ _ (and_left _ _ a), leb-true _ _ (and_right _ _ a), rw m (leb-true _ _ (and_right _ _ e)))

-- A node that a good tree may have is sound.
pub node_ok : (c k : ℕ) → (least_code ≤ c) × (c ≤ greatest_code) × (k ≤ most_children) → sound_node c k ≡ true
unfolding sound_node
node_ok c k h = and_both (and_both (le-leb _ _ h.0) (le-leb _ _ h.1)) (le-leb _ _ h.2)

-- A reading is right: n trees, all good, whose words stand in front of what is left.
abbrev pub Sound : ℕ → List ℕ → Reading → Type 0
Sound n s broken = Unit {0}
Sound n s (read f r) = (s ≡ words_f f ++ r) × (count f ≡ n) × GoodF f

-- A node over what was read right is read right.
sound-node : (b : Bool) (c k n : ℕ) (s : List ℕ) (p : Reading) → sound_node c k ≡ b → Sound (k + n) s p → Sound (suc n) (c ∷ k ∷ s) (node_over b c k p)
unfolding node_over sound_node words_f count GoodF
sound-node false c k n s p e h = tt
sound-node true c k n s broken e h = tt
sound-node true c k n s (read f r) e h = (
  let m : count (first_trees k f) ≡ k = count-take k n f h.1 in
      rw (m, words-split k f) (ap (λ (l : List ℕ). c ∷ k ∷ l) h.0),
  ap suc (count-drop k n f h.1),
  ((ok_node c k (first_trees k f) e (count-take k n f h.1), good-take k f h.2), good-drop k f h.2),
)

-- What is read is what `words` writes.
pub sound : (s : List ℕ) (n : ℕ) → Sound n s (read_trees s n)
unfolding read_trees words_f count GoodF
sound [] zero = (refl, refl, tt)
sound [] (suc n) = tt
sound (c ∷ []) zero = (refl, refl, tt)
sound (c ∷ []) (suc n) = tt
sound (c ∷ k ∷ s) zero = (refl, refl, tt)
sound (c ∷ k ∷ s) (suc n) = sound-node (sound_node c k) c k n s (read_trees s (k + n)) refl (sound s (k + n))

-- A row that is split where it was joined gives the first row back.
split-first : (f g : Forest) → first_trees (count f) (join f g) ≡ f
unfolding count first_trees
split-first bare g = refl
split-first (cons t f) g = ap (cons t) (split-first f g)

-- And the second.
split-later : (f g : Forest) → later_trees (count f) (join f g) ≡ g
unfolding count later_trees
split-later bare g = refl
split-later (cons t f) g = split-later f g

-- A node is put over its own children.
node-joined : (c : ℕ) (f : Forest) (p : Reading) → node_over true c (count f) (add_f f p) ≡ add_t (node c f) p
unfolding node_over
node-joined c f broken = refl
node-joined c f (read g r) = rw (split-first f g, split-later f g)

-- A row of no trees changes nothing.
add_f_bare : (p : Reading) → add_f bare p ≡ p
add_f_bare broken = refl
add_f_bare (read g r) = refl

-- A row put before is its first tree put before the others.
add_f_cons : (t : Tree) (f : Forest) (p : Reading) → add_f (cons t f) p ≡ add_t t (add_f f p)
add_f_cons t f broken = refl
add_f_cons t f (read g r) = refl

-- What `words` writes is read.
mutual
  unfolding words Good read_trees count

  pub complete : (t : Tree) → Good t → (n : ℕ) (s : List ℕ) → read_trees (words t ++ s) (suc n) ≡ add_t t (read_trees s n)
  complete (node c f) g n s = rw (node_ok c (count f) g.0, complete_f f g.1 n s) (node-joined c f (read_trees s n))

  complete_f : (f : Forest) → GoodF f → (n : ℕ) (s : List ℕ) → read_trees (words_f f ++ s) (count f + n) ≡ add_f f (read_trees s n)
  complete_f bare g n s = ap (read_trees s) (zero-add n) ∙ sym (add_f_bare _)
  complete_f (cons t f) g n s = rw (append_assoc (words t) (words_f f) s, suc-add (count f) n)
      (complete t g.0 (count f + n) (words_f f ++ s) ∙ ap (add_t t) (complete_f f g.1 n s) ∙ sym (add_f_cons t f (read_trees s n)))

-- Reading no tree leaves the words as they are.
pub reads_none : (s : List ℕ) → read_trees s zero ≡ read bare s
unfolding read_trees
reads_none [] = refl
reads_none (c ∷ []) = refl
reads_none (c ∷ k ∷ s) = refl

-- What was read of one tree, and then n trees from the words past it.
abbrev pub then_f : ℕ → Reading → Reading
then_f n broken = broken
then_f n (read bare r) = broken
then_f n (read (cons t f) r) = add_t t (read_trees r n)

-- Where no tree is read, no more are.
no_more : (s : List ℕ) (n : ℕ) (q : Reading) → read_trees s 1 ≡ broken → Sound (suc n) s q → q ≡ broken
unfolding count words_f GoodF
no_more s n broken e h = refl
no_more s n (read bare r) e h = absurd (omega (arith, h.1))
no_more s n (read (cons t f) r) e h =
    let a : s ≡ words t ++ (words_f f ++ r) = h.0 ∙ append_assoc (words t) (words_f f) r in
    let b : read_trees s 1 ≡ add_t t (read_trees (words_f f ++ r) 0) = rw a (complete t h.2.0 0 (words_f f ++ r)) in
    let z : broken ≡ read (cons t bare) (words_f f ++ r) = sym e ∙ b ∙ ap (add_t t) (reads_none (words_f f ++ r)) in
    cc

-- `first` for each reading of one tree.
first_of : (s : List ℕ) (n : ℕ) (p : Reading) → read_trees s 1 ≡ p → Sound 1 s p → read_trees s (suc n) ≡ then_f n p
unfolding count words_f GoodF
first_of s n broken e h = no_more s n (read_trees s (suc n)) e (sound s (suc n))
first_of s n (read bare r) e h = absurd (omega (arith, h.1))
first_of s n (read (cons t bare) r) e h = rw h.0 (rw (append_assoc (words t) [] r) (complete t h.2.0 n r))
first_of s n (read (cons t (cons u f)) r) e h = absurd (omega (arith, h.1))

-- Reading a tree and n more is reading one tree, and then n from the words past it.
pub first : (s : List ℕ) (n : ℕ) → read_trees s (suc n) ≡ then_f n (read_trees s 1)
first s n = first_of s n (read_trees s 1) refl (sound s 1)
